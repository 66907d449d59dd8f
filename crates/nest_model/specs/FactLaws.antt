-- Laws: an array of each kind has the facts of that kind.
use Rattle.std.specs.Prelude.{ℕ, ℤ, Bool, List, Option}
use Rattle.nest_memory.specs.TypeTree.{TypeTree}
use Rattle.nest_model.specs.Part.{Validity}
use Rattle.nest_model.specs.Layout.{Layout, Layouts, binary, utf8, fixed_size_binary, fixed_size_list, list, map, struct, union, dictionary}
use Rattle.nest_model.specs.Array.{TopFits}
use Rattle.nest_model.specs.Facts.{IsStruct, IsList, IsFixedSizeBinary, IsUnion, IsDictionary, IsText, IsMap, IsFixedSizeList, IsBinary}

pub binary-facts : (large : Bool) (t : TypeTree) (os bs : List ℕ) (va : Validity) → TopFits (binary large t os bs va) → IsBinary large t os bs va
binary-facts large t os bs va h = record { rising = h.0; within = h.1.0; bits = h.1.1.0; typed = h.1.1.1.0 }

pub text-facts : (large : Bool) (t : TypeTree) (os bs : List ℕ) (va : Validity) → TopFits (utf8 large t os bs va) → IsText large t os bs va
text-facts large t os bs va h = record { rising = h.0; within = h.1.0; texts = h.1.1.0; bits = h.1.1.1.0; typed = h.1.1.1.1.0 }

pub fixed_size_binary-facts : (t : TypeTree) (bs : List ℕ) (va : Validity) → TopFits (fixed_size_binary t bs va) → IsFixedSizeBinary t bs va
fixed_size_binary-facts t bs va h = record { typed = h.1.0; sized = h.1.1.0; multiple = h.1.1.1.0; bits = h.1.1.1.1.0 }

pub fixed_size_list-facts : (t : TypeTree) (c : Layout) (va : Validity) → TopFits (fixed_size_list t c va) → IsFixedSizeList t c va
fixed_size_list-facts t c va h = record { typed = h.1.0; sized = h.1.1.0; items = h.1.1.1.0; multiple = h.1.1.1.1.0; bits = h.1.1.1.1.1.0 }

pub list-facts : (large : Bool) (t : TypeTree) (os : List ℕ) (c : Layout) (va : Validity) → TopFits (list large t os c va) → IsList large t os c va
list-facts large t os c va h = record { rising = h.0; within = h.1.0; bits = h.1.1.0; typed = h.1.1.1.0; items = h.1.1.1.1.0 }

pub map-facts : (t : TypeTree) (os : List ℕ) (c : Layout) (va : Validity) → TopFits (map t os c va) → IsMap t os c va
map-facts t os c va h = record { rising = h.0; within = h.1.0; typed = h.1.1.0; pairs = h.1.1.1.0; entries = h.1.1.1.1.0; bits = h.1.1.1.1.1.0 }

pub struct-facts : (t : TypeTree) (cs : Layouts) (va : Validity) → TopFits (struct t cs va) → IsStruct t cs va
struct-facts t cs va h = record { typed = h.1.0; some_field = h.1.1.0; as_many = h.1.1.1.0; each_type = h.1.1.1.1.0; each_len = h.1.1.1.1.1.0; bits = h.1.1.1.1.1.1.0 }

pub union-facts : (t : TypeTree) (ks : List ℤ) (cs : Layouts) (os : Option (List ℤ)) (start : ℕ) → TopFits (union t ks cs os start) → IsUnion t ks cs os start
union-facts t ks cs os start h =
    let f = h.1.1.1.1.1 in
    record {
      typed = h.1.0;
      as_many = h.1.1.0;
      at_most = h.1.1.1.0;
      each_type = h.1.1.1.1.0;
      offsets = f.0;
      mode = f.1.0;
      ids = f.1.1.0;
      ids_in_range = f.1.1.1.0;
      each_means = f.1.1.1.1.0;
      slots_there = f.1.1.1.1.1.0;
    }

pub dictionary-facts : (t : TypeTree) (ks c : Layout) → TopFits (dictionary t ks c) → IsDictionary t ks c
dictionary-facts t ks c h = record { keyed = h.0; typed = h.1.0; key_typed = h.1.1.0; value_typed = h.1.1.1.0; in_range = h.1.1.1.1 }
