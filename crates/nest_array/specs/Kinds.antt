-- The physical type of an array, by its variant and by its data type.
use Rattle.std.specs.Prelude.{◌≡◌, Bool, true, false}
use Rattle.nest_memory.specs.declared.datatypes.physical_type.PhysicalType.{PhysicalType}
use Rattle.nest_memory.specs.declared.datatypes.physical_type.PhysicalType.TheVariants as physical
use Rattle.nest_memory.specs.Physical.{physical_type, list_of_width, binary_of_width, utf8_of_width}
use Rattle.nest_model.specs.Accessors.{keys_of, key_type_of}
use Rattle.nest_model.specs.Layout.{Layout, null, boolean, primitive, binary, utf8, fixed_size_binary, fixed_size_list, list, map, struct, union, dictionary}
use Rattle.nest_model.specs.Array.{TopFits}
use Rattle.nest_flat.specs.AnyPrimitive.{primitive_kind}
use Rattle.nest_array.specs.declared.any.AnyArray.{AnyArray}
use Rattle.nest_array.specs.declared.any.AnyArray.TheVariants as any
use Rattle.nest_array.specs.Keys.{keyed_by}

abbrev pub physical_kind : AnyArray → PhysicalType
physical_kind (any.Null a) = physical.Null
physical_kind (any.Primitive a) = physical.Primitive (primitive_kind a)
physical_kind (any.Boolean a) = physical.Boolean
physical_kind (any.Binary a) = physical.Binary
physical_kind (any.LargeBinary a) = physical.LargeBinary
physical_kind (any.Utf8 a) = physical.Utf8
physical_kind (any.LargeUtf8 a) = physical.LargeUtf8
physical_kind (any.FixedSizeBinary a) = physical.FixedSizeBinary
physical_kind (any.FixedSizeList a) = physical.FixedSizeList
physical_kind (any.List a) = physical.List
physical_kind (any.LargeList a) = physical.LargeList
physical_kind (any.Struct a) = physical.Struct
physical_kind (any.Map a) = physical.Map
physical_kind (any.Union a) = physical.Union
physical_kind (any.Dictionary a) = physical.Dictionary (keyed_by (key_type_of (keys_of a)))

-- a physical type of primitive arrays
abbrev pub IsPrimitive : PhysicalType → Type 0
IsPrimitive (physical.Primitive k) = Unit {0}
IsPrimitive p = ⊥

-- a physical type of dictionary arrays
abbrev pub IsKeyed : PhysicalType → Type 0
IsKeyed (physical.Dictionary k) = Unit {0}
IsKeyed p = ⊥

-- the physical type of the layout's data type is that of the layout; for dictionaries, see its keys
abbrev pub IsTyped : Layout → Type 0
IsTyped (null t n) = physical_type t ≡ physical.Null
IsTyped (boolean t bs va) = physical_type t ≡ physical.Boolean
IsTyped (primitive k t vs va) = physical_type t ≡ physical.Primitive k
IsTyped (binary l t os bs va) = physical_type t ≡ binary_of_width l
IsTyped (utf8 l t os bs va) = physical_type t ≡ utf8_of_width l
IsTyped (fixed_size_binary t bs va) = physical_type t ≡ physical.FixedSizeBinary
IsTyped (fixed_size_list t c va) = physical_type t ≡ physical.FixedSizeList
IsTyped (list l t os c va) = physical_type t ≡ list_of_width l
IsTyped (map t os c va) = physical_type t ≡ physical.Map
IsTyped (struct t cs va) = physical_type t ≡ physical.Struct
IsTyped (union t ks cs os start) = physical_type t ≡ physical.Union
IsTyped (dictionary t ks c) = Unit {0}

pub typed : (a : Layout) → TopFits a → IsTyped a
typed (null t n) h = h.1.0
typed (boolean t bs va) h = h.1.1.0
typed (primitive k t vs va) h = h.1.1.0
typed (binary l t os bs va) h = h.1.1.1.0
typed (utf8 l t os bs va) h = h.1.1.1.1.0
typed (fixed_size_binary t bs va) h = h.1.0
typed (fixed_size_list t c va) h = h.1.0
typed (list l t os c va) h = h.1.1.1.0
typed (map t os c va) h = h.1.1.0
typed (struct t cs va) h = h.1.0
typed (union t ks cs os start) h = h.1.0
typed (dictionary t ks c) h = tt

-- the array has no children
abbrev pub has_leaves : AnyArray → Bool
has_leaves (any.FixedSizeList a) = false
has_leaves (any.List a) = false
has_leaves (any.LargeList a) = false
has_leaves (any.Struct a) = false
has_leaves (any.Map a) = false
has_leaves (any.Union a) = false
has_leaves (any.Dictionary a) = false
has_leaves a = true

-- arrays of this physical type have no children
abbrev pub leaf_type : PhysicalType → Bool
leaf_type physical.Null = true
leaf_type physical.Boolean = true
leaf_type (physical.Primitive k) = true
leaf_type physical.Binary = true
leaf_type physical.LargeBinary = true
leaf_type physical.Utf8 = true
leaf_type physical.LargeUtf8 = true
leaf_type physical.FixedSizeBinary = true
leaf_type p = false
