-- Arrays whose data types have one physical type are of one kind.
use Rattle.std.specs.Prelude.{Bool, true, false, IsTrue}
use Rattle.std.proofs.Common.{◌≡◌, ℕ, refl, ap, sym, ◌∙◌, arith}
use Rattle.nest_memory.specs.Physical.{physical_type, list_of_width, binary_of_width, utf8_of_width}
use Rattle.nest_memory.specs.TypeTree as types
use Rattle.nest_memory.specs.TypeTree.{TypeTree}
use Rattle.nest_memory.specs.declared.datatypes.IntegerType.{IntegerType}
use Rattle.nest_memory.specs.declared.datatypes.physical_type.PhysicalType.{PhysicalType}
use Rattle.nest_memory.specs.declared.datatypes.physical_type.PhysicalType.TheVariants as physical
use Rattle.nest_memory.specs.declared.datatypes.physical_type.PrimitiveType.{PrimitiveType}
use Rattle.nest_model.specs.Accessors.{validity_of, bits_of, natives_of, bytes_of, offsets_of, child_of, children_of, types_of, union_offsets_of, start_of, keys_of}
use Rattle.nest_model.specs.Array.{TopFits}
use Rattle.nest_model.specs.Fits.{is_dictionary}
use Rattle.nest_model.specs.Layout.{Layout, null, boolean, primitive, binary, utf8, fixed_size_binary, fixed_size_list, list, map, struct, union, dictionary, layout_type}
use Rattle.nest_model.specs.Meaning.{len}

abbrev physical_number : PhysicalType → ℕ
physical_number physical.Null = 0
physical_number physical.Boolean = 1
physical_number (physical.Primitive k) = 2
physical_number physical.Binary = 3
physical_number physical.LargeBinary = 3
physical_number physical.Utf8 = 4
physical_number physical.LargeUtf8 = 4
physical_number physical.FixedSizeBinary = 5
physical_number physical.FixedSizeList = 6
physical_number physical.List = 7
physical_number physical.LargeList = 7
physical_number physical.Map = 8
physical_number physical.Struct = 9
physical_number physical.Union = 10
physical_number (physical.Dictionary k) = 11

abbrev shape_number : Layout → ℕ
shape_number (null t n) = 0
shape_number (boolean t bs va) = 1
shape_number (primitive k t vs va) = 2
shape_number (binary l t os bs va) = 3
shape_number (utf8 l t os bs va) = 4
shape_number (fixed_size_binary t bs va) = 5
shape_number (fixed_size_list t c va) = 6
shape_number (list l t os c va) = 7
shape_number (map t os c va) = 8
shape_number (struct t cs va) = 9
shape_number (union t ks cs os start) = 10
shape_number (dictionary t ks c) = 11

binary-number : (l : Bool) → physical_number (binary_of_width l) ≡ 3
binary-number true = refl
binary-number false = refl

text-number : (l : Bool) → physical_number (utf8_of_width l) ≡ 4
text-number true = refl
text-number false = refl

list-number : (l : Bool) → physical_number (list_of_width l) ≡ 7
list-number true = refl
list-number false = refl

keyed-number : (t : TypeTree) → IsTrue (is_dictionary t) → physical_number (physical_type t) ≡ 11
keyed-number (types.dictionary k u b) h = refl
keyed-number (types.extension n u m) h = keyed-number u h
keyed-number t h = cc

shape-number : (a : Layout) → TopFits a → physical_number (physical_type (layout_type a)) ≡ shape_number a
shape-number (null t n) h = ap physical_number h.1.0
shape-number (boolean t bs va) h = ap physical_number h.1.1.0
shape-number (primitive k t vs va) h = ap physical_number h.1.1.0
shape-number (binary l t os bs va) h = ap physical_number h.1.1.1.0 ∙ binary-number l
shape-number (utf8 l t os bs va) h = ap physical_number h.1.1.1.1.0 ∙ text-number l
shape-number (fixed_size_binary t bs va) h = ap physical_number h.1.0
shape-number (fixed_size_list t c va) h = ap physical_number h.1.0
shape-number (list l t os c va) h = ap physical_number h.1.1.1.0 ∙ list-number l
shape-number (map t os c va) h = ap physical_number h.1.1.0
shape-number (struct t cs va) h = ap physical_number h.1.0
shape-number (union t ks cs os start) h = ap physical_number h.1.0
shape-number (dictionary t ks c) h = keyed-number t h.1.0

pub null-shape : (a : Layout) → TopFits a → physical_type (layout_type a) ≡ physical.Null → a ≡ null (layout_type a) (len a)
null-shape (null t n) h p = refl
null-shape a h p = absurd (omega (arith, shape-number a h, ap physical_number p))

pub boolean-shape : (a : Layout) → TopFits a → physical_type (layout_type a) ≡ physical.Boolean → a ≡ boolean (layout_type a) (bits_of a) (validity_of a)
boolean-shape (boolean t bs va) h p = refl
boolean-shape a h p = absurd (omega (arith, shape-number a h, ap physical_number p))

abbrev native_of : PrimitiveType → PhysicalType → PrimitiveType
native_of k (physical.Primitive j) = j
native_of k p = k

pub primitive-shape : (k : PrimitiveType) (a : Layout) → TopFits a → physical_type (layout_type a) ≡ physical.Primitive k → a ≡ primitive k (layout_type a) (natives_of a) (validity_of a)
primitive-shape k (primitive j t vs va) h p = ap (λ z. primitive z t vs va) (ap (native_of k) (sym h.1.1.0 ∙ p))
primitive-shape k a h p = absurd (omega (arith, shape-number a h, ap physical_number p))

-- the width of offsets
abbrev is_large : PhysicalType → Bool
is_large physical.LargeBinary = true
is_large physical.LargeUtf8 = true
is_large physical.LargeList = true
is_large p = false

large-binary : (l : Bool) → is_large (binary_of_width l) ≡ l
large-binary true = refl
large-binary false = refl

large-text : (l : Bool) → is_large (utf8_of_width l) ≡ l
large-text true = refl
large-text false = refl

large-list : (l : Bool) → is_large (list_of_width l) ≡ l
large-list true = refl
large-list false = refl

pub binary-shape : (large : Bool) (a : Layout) → TopFits a → physical_type (layout_type a) ≡ binary_of_width large → a ≡ binary large (layout_type a) (offsets_of a) (bytes_of a) (validity_of a)
binary-shape large (binary l t os bs va) h p = ap (λ z. binary z t os bs va) (sym (large-binary l) ∙ ap is_large (sym h.1.1.1.0 ∙ p) ∙ large-binary large)
binary-shape large a h p = absurd (omega (arith, shape-number a h, ap physical_number p, binary-number large))

pub text-shape : (large : Bool) (a : Layout) → TopFits a → physical_type (layout_type a) ≡ utf8_of_width large → a ≡ utf8 large (layout_type a) (offsets_of a) (bytes_of a) (validity_of a)
text-shape large (utf8 l t os bs va) h p = ap (λ z. utf8 z t os bs va) (sym (large-text l) ∙ ap is_large (sym h.1.1.1.1.0 ∙ p) ∙ large-text large)
text-shape large a h p = absurd (omega (arith, shape-number a h, ap physical_number p, text-number large))

pub fixed_size_binary-shape : (a : Layout) → TopFits a → physical_type (layout_type a) ≡ physical.FixedSizeBinary → a ≡ fixed_size_binary (layout_type a) (bytes_of a) (validity_of a)
fixed_size_binary-shape (fixed_size_binary t bs va) h p = refl
fixed_size_binary-shape a h p = absurd (omega (arith, shape-number a h, ap physical_number p))

pub fixed_size_list-shape : (a : Layout) → TopFits a → physical_type (layout_type a) ≡ physical.FixedSizeList → a ≡ fixed_size_list (layout_type a) (child_of a) (validity_of a)
fixed_size_list-shape (fixed_size_list t c va) h p = refl
fixed_size_list-shape a h p = absurd (omega (arith, shape-number a h, ap physical_number p))

pub list-shape : (large : Bool) (a : Layout) → TopFits a → physical_type (layout_type a) ≡ list_of_width large → a ≡ list large (layout_type a) (offsets_of a) (child_of a) (validity_of a)
list-shape large (list l t os c va) h p = ap (λ z. list z t os c va) (sym (large-list l) ∙ ap is_large (sym h.1.1.1.0 ∙ p) ∙ large-list large)
list-shape large a h p = absurd (omega (arith, shape-number a h, ap physical_number p, list-number large))

pub map-shape : (a : Layout) → TopFits a → physical_type (layout_type a) ≡ physical.Map → a ≡ map (layout_type a) (offsets_of a) (child_of a) (validity_of a)
map-shape (map t os c va) h p = refl
map-shape a h p = absurd (omega (arith, shape-number a h, ap physical_number p))

pub union-shape : (a : Layout) → TopFits a → physical_type (layout_type a) ≡ physical.Union → a ≡ union (layout_type a) (types_of a) (children_of a) (union_offsets_of a) (start_of a)
union-shape (union t ks cs os start) h p = refl
union-shape a h p = absurd (omega (arith, shape-number a h, ap physical_number p))

pub dictionary-shape : (k : IntegerType) (a : Layout) → TopFits a → physical_type (layout_type a) ≡ physical.Dictionary k → a ≡ dictionary (layout_type a) (keys_of a) (child_of a)
dictionary-shape k (dictionary t ks c) h p = refl
dictionary-shape k a h p = absurd (omega (arith, shape-number a h, ap physical_number p))

pub struct-shape : (a : Layout) → TopFits a → physical_type (layout_type a) ≡ physical.Struct → a ≡ struct (layout_type a) (children_of a) (validity_of a)
struct-shape (struct t cs va) h p = refl
struct-shape a h p = absurd (omega (arith, shape-number a h, ap physical_number p))
