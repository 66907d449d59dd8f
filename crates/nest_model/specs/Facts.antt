-- Named facts of arrays of each kind, at the top level.
use Rattle.std.specs.Prelude.{◌≡◌, ℕ, ◌≤◌, ◌<◌, ◌%◌, ℤ, Bool, IsTrue, List, length, Option, Some}
use Rattle.nest_memory.specs.declared.datatypes.physical_type.PhysicalType.TheVariants as physical
use Rattle.nest_memory.specs.TypeTree.{TypeTree, count_fields, item_type, size_of, fields_of, ids_of, is_dense, has_pairs, key_type, value_type}
use Rattle.nest_memory.specs.Physical.{physical_type, list_of_width, binary_of_width, utf8_of_width}
use Rattle.nest_memory.specs.Rising.{last_of}
use Rattle.nest_model.specs.Part.{Validity, count_rows}
use Rattle.nest_model.specs.Layout.{Layout, Layouts, fixed_size_binary, fixed_size_list, layout_type, count_layouts}
use Rattle.nest_model.specs.Accessors.{validity_of, key_type_of}
use Rattle.nest_model.specs.Meaning.{len, first_len}
use Rattle.nest_model.specs.Fits.{ValidityFits, EachType, EachLen, IdsCount, IdsInRange, EachMeansField, OffsetsCount, OffsetsByMode, SlotsThere, IsLogically, is_dictionary, EachUtf8, EachValidNames}
use Rattle.nest_model.specs.Array.{AreOffsets, AreKeys}
use Rattle.nest_model.specs.Checks.{most_fields}

pub record IsBinary (large : Bool) (t : TypeTree) (os bs : List ℕ) (va : Validity) : Type 0 where
  pub rising : AreOffsets os
  pub within : last_of os ≤ length bs
  pub bits : ValidityFits va (count_rows os)
  pub typed : physical_type t ≡ binary_of_width large

pub record IsText (large : Bool) (t : TypeTree) (os bs : List ℕ) (va : Validity) : Type 0 where
  pub rising : AreOffsets os
  pub within : last_of os ≤ length bs
  pub texts : EachUtf8 os bs
  pub bits : ValidityFits va (count_rows os)
  pub typed : physical_type t ≡ utf8_of_width large

pub record IsFixedSizeBinary (t : TypeTree) (bs : List ℕ) (va : Validity) : Type 0 where
  pub typed : physical_type t ≡ physical.FixedSizeBinary
  pub sized : 0 < size_of t
  pub multiple : length bs % size_of t ≡ 0
  pub bits : ValidityFits va (len (fixed_size_binary t bs va))

pub record IsFixedSizeList (t : TypeTree) (c : Layout) (va : Validity) : Type 0 where
  pub typed : physical_type t ≡ physical.FixedSizeList
  pub sized : 0 < size_of t
  pub items : item_type t ≡ Some (layout_type c)
  pub multiple : len c % size_of t ≡ 0
  pub bits : ValidityFits va (len (fixed_size_list t c va))

pub record IsList (large : Bool) (t : TypeTree) (os : List ℕ) (c : Layout) (va : Validity) : Type 0 where
  pub rising : AreOffsets os
  pub within : last_of os ≤ len c
  pub bits : ValidityFits va (count_rows os)
  pub typed : physical_type t ≡ list_of_width large
  pub items : item_type t ≡ Some (layout_type c)

pub record IsMap (t : TypeTree) (os : List ℕ) (c : Layout) (va : Validity) : Type 0 where
  pub rising : AreOffsets os
  pub within : last_of os ≤ len c
  pub typed : physical_type t ≡ physical.Map
  pub pairs : IsTrue (has_pairs t)
  pub entries : item_type t ≡ Some (layout_type c)
  pub bits : ValidityFits va (count_rows os)

pub record IsStruct (t : TypeTree) (cs : Layouts) (va : Validity) : Type 0 where
  pub typed : physical_type t ≡ physical.Struct
  pub some_field : 0 < count_fields (fields_of t)
  pub as_many : count_layouts cs ≡ count_fields (fields_of t)
  pub each_type : EachType (fields_of t) cs
  pub each_len : EachLen cs (first_len cs)
  pub bits : ValidityFits va (first_len cs)

pub record IsUnion (t : TypeTree) (ks : List ℤ) (cs : Layouts) (os : Option (List ℤ)) (start : ℕ) : Type 0 where
  pub typed : physical_type t ≡ physical.Union
  pub as_many : count_layouts cs ≡ count_fields (fields_of t)
  pub at_most : count_layouts cs ≤ most_fields
  pub each_type : EachType (fields_of t) cs
  pub offsets : OffsetsCount os (length ks)
  pub mode : OffsetsByMode os (is_dense t)
  pub ids : IdsCount (ids_of t) (count_layouts cs)
  pub ids_in_range : IdsInRange (ids_of t)
  pub each_means : EachMeansField (ids_of t) ks (count_layouts cs)
  pub slots_there : SlotsThere (ids_of t) ks cs os start

pub record IsDictionary (t : TypeTree) (ks c : Layout) : Type 0 where
  pub keyed : AreKeys ks
  pub typed : IsTrue (is_dictionary t)
  pub key_typed : key_type t ≡ key_type_of ks
  pub value_typed : IsLogically (value_type t) (layout_type c)
  pub in_range : EachValidNames (validity_of ks) ks (len c)
