-- The parts of the array of n null slots of a data type, and of the empty array.
-- The definitions are this library's own.
use Rattle.std.specs.Prelude.{ℕ, suc, ◌*◌, ℤ, pos, true, false, List, [], ◌∷◌, map, replicate, Option, Some, None}
use Rattle.std.specs.List.{range_with_len}
use Rattle.nest_memory.specs.declared.datatypes.IntegerType.{IntegerType}
use Rattle.nest_memory.specs.declared.datatypes.IntegerType.TheVariants as integers
use Rattle.nest_memory.specs.declared.datatypes.UnionMode.{UnionMode}
use Rattle.nest_memory.specs.declared.datatypes.UnionMode.TheVariants as modes
use Rattle.nest_memory.specs.declared.datatypes.physical_type.PhysicalType.{PhysicalType}
use Rattle.nest_memory.specs.declared.datatypes.physical_type.PhysicalType.TheVariants as physical
use Rattle.nest_memory.specs.declared.datatypes.physical_type.PrimitiveType.{PrimitiveType}
use Rattle.nest_memory.specs.declared.datatypes.physical_type.PrimitiveType.TheVariants as primitives
use Rattle.nest_memory.specs.TypeTree as types
use Rattle.nest_memory.specs.TypeTree.{TypeTree, FieldTree, field, FieldTrees, no_fields, more_fields}
use Rattle.nest_memory.specs.Physical.{physical_type}
use Rattle.nest_model.specs.declared.fill.Fill.{Fill}
use Rattle.nest_model.specs.declared.fill.Fill.TheVariants.{Nulls, Nothing}
use Rattle.nest_model.specs.Part.{Validity}
use Rattle.nest_model.specs.Layout as layouts
use Rattle.nest_model.specs.Layout.{Layout, Layouts, no_layouts, more_layouts}
use Rattle.nest_model.specs.Accessors.{with_type}
use Rattle.nest_model.specs.Nulls.{values_below}

-- The native value of this primitive type whose integers are zeros.
abbrev pub zero_value : PrimitiveType → List ℤ
zero_value primitives.Int256 = pos 0 ∷ pos 0 ∷ []
zero_value primitives.DaysMs = pos 0 ∷ pos 0 ∷ []
zero_value primitives.MonthDayNano = pos 0 ∷ pos 0 ∷ pos 0 ∷ []
zero_value k = pos 0 ∷ []

-- The primitive type and the data type of keys of this key type.
abbrev pub native_of_key : IntegerType → PrimitiveType
native_of_key integers.Int8 = primitives.Int8
native_of_key integers.Int16 = primitives.Int16
native_of_key integers.Int32 = primitives.Int32
native_of_key integers.Int64 = primitives.Int64
native_of_key integers.UInt8 = primitives.UInt8
native_of_key integers.UInt16 = primitives.UInt16
native_of_key integers.UInt32 = primitives.UInt32
native_of_key integers.UInt64 = primitives.UInt64

abbrev pub type_of_key : IntegerType → TypeTree
type_of_key integers.Int8 = types.int8
type_of_key integers.Int16 = types.int16
type_of_key integers.Int32 = types.int32
type_of_key integers.Int64 = types.int64
type_of_key integers.UInt8 = types.uint8
type_of_key integers.UInt16 = types.uint16
type_of_key integers.UInt32 = types.uint32
type_of_key integers.UInt64 = types.uint64

-- A validity without a set bit. An empty array has no validity.
abbrev pub none_valid : Fill → ℕ → Validity
none_valid Nulls n = Some (replicate n false)
none_valid Nothing n = None

-- An array of n nulls of a primitive type.
abbrev pub native_nulls : PrimitiveType → TypeTree → ℕ → Fill → Layout
native_nulls k t n fill = layouts.primitive k t (replicate n (zero_value k)) (none_valid fill n)

abbrev pub flat_nulls : PhysicalType → TypeTree → ℕ → Fill → Layout
flat_nulls physical.Boolean t n fill = layouts.boolean t (replicate n false) (none_valid fill n)
flat_nulls (physical.Primitive k) t n fill = native_nulls k t n fill
flat_nulls p t n fill = layouts.null t n

-- The type id of each slot of a union: the first id, or that of field 0 if there are no ids.
abbrev pub null_type : Option (List ℤ) → ℤ
null_type None = pos 0
null_type (Some []) = pos 0
null_type (Some (z ∷ zs)) = z

-- The offsets of a dense union, which are consecutive.
abbrev pub null_offsets : UnionMode → ℕ → Option (List ℤ)
null_offsets modes.Dense n = Some (map (λ i. pos i) (range_with_len 0 n))
null_offsets modes.Sparse n = None

-- An array of n null slots. The child of a list or map is empty.
abbrev mutual
  pub null_array : TypeTree → ℕ → Fill → Layout
  null_array types.binary n fill = layouts.binary false types.binary (replicate (suc n) 0) [] (none_valid fill n)
  null_array types.large_binary n fill = layouts.binary true types.large_binary (replicate (suc n) 0) [] (none_valid fill n)
  null_array types.utf8 n fill = layouts.utf8 false types.utf8 (replicate (suc n) 0) [] (none_valid fill n)
  null_array types.large_utf8 n fill = layouts.utf8 true types.large_utf8 (replicate (suc n) 0) [] (none_valid fill n)
  null_array (types.fixed_size_binary s) n fill = layouts.fixed_size_binary (types.fixed_size_binary s) (replicate (n * s) 0) (none_valid fill n)
  null_array (types.list f) n fill = layouts.list false (types.list f) (replicate (suc n) 0) (null_item f 0 Nothing) (none_valid fill n)
  null_array (types.large_list f) n fill = layouts.list true (types.large_list f) (replicate (suc n) 0) (null_item f 0 Nothing) (none_valid fill n)
  null_array (types.fixed_size_list f s) n fill = layouts.fixed_size_list (types.fixed_size_list f s) (null_item f (n * s) fill) (none_valid fill n)
  null_array (types.map f b) n fill = layouts.map (types.map f b) (replicate (suc n) 0) (null_item f 0 Nothing) (none_valid fill n)
  null_array (types.struct fs) n fill = layouts.struct (types.struct fs) (null_children fs n fill) (none_valid fill n)
  null_array (types.union fs ids mode) n fill = layouts.union (types.union fs ids mode) (replicate n (null_type ids)) (null_children fs n fill) (null_offsets mode n) 0
  null_array (types.dictionary k t b) n fill = layouts.dictionary (types.dictionary k t b) (native_nulls (native_of_key k) (type_of_key k) n fill) (null_array t (values_below fill) fill)
  null_array (types.extension x t m) n fill = with_type (null_array t n fill) (types.extension x t m)
  null_array t n fill = flat_nulls (physical_type t) t n fill

  pub null_item : FieldTree → ℕ → Fill → Layout
  null_item (field x t b es) n fill = null_array t n fill

  pub null_children : FieldTrees → ℕ → Fill → Layouts
  null_children no_fields n fill = no_layouts
  null_children (more_fields f fs) n fill = more_layouts (null_item f n fill) (null_children fs n fill)

-- The array of n null slots, and the empty array.
abbrev pub null_layout : TypeTree → ℕ → Layout
null_layout t n = null_array t n Nulls

abbrev pub empty_layout : TypeTree → Layout
empty_layout t = null_array t 0 Nothing
