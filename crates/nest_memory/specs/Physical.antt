-- The layout of each data type: "Physical Memory Layout" of the Arrow columnar format, with the widths of `Schema.fbs`.
use Rattle.std.specs.Prelude.{◌≡◌, Bool, if◌then◌else◌, refl}
use Rattle.nest_memory.specs.TypeTree as types
use Rattle.nest_memory.specs.TypeTree.{TypeTree}
use Rattle.nest_memory.specs.declared.datatypes.IntegerType.{IntegerType}
use Rattle.nest_memory.specs.declared.datatypes.IntegerType.TheVariants as integers
use Rattle.nest_memory.specs.declared.datatypes.IntervalUnit.{IntervalUnit}
use Rattle.nest_memory.specs.declared.datatypes.IntervalUnit.TheVariants.{YearMonth, DayTime, MonthDayNano}
use Rattle.nest_memory.specs.declared.datatypes.physical_type.PhysicalType.{PhysicalType}
use Rattle.nest_memory.specs.declared.datatypes.physical_type.PhysicalType.TheVariants as physical
use Rattle.nest_memory.specs.declared.datatypes.physical_type.PrimitiveType.{PrimitiveType}
use Rattle.nest_memory.specs.declared.datatypes.physical_type.PrimitiveType.TheVariants as primitive

-- The widths of `IntervalUnit` of `Schema.fbs`.
abbrev interval_type : IntervalUnit → PrimitiveType
interval_type YearMonth = primitive.Int32
interval_type DayTime = primitive.DaysMs
interval_type MonthDayNano = primitive.MonthDayNano

-- "Physical Memory Layout": the physical type of the logical type.
abbrev pub physical_type : TypeTree → PhysicalType
physical_type types.null = physical.Null
physical_type types.boolean = physical.Boolean
physical_type types.int8 = physical.Primitive primitive.Int8
physical_type types.int16 = physical.Primitive primitive.Int16
physical_type types.int32 = physical.Primitive primitive.Int32
physical_type types.int64 = physical.Primitive primitive.Int64
physical_type types.uint8 = physical.Primitive primitive.UInt8
physical_type types.uint16 = physical.Primitive primitive.UInt16
physical_type types.uint32 = physical.Primitive primitive.UInt32
physical_type types.uint64 = physical.Primitive primitive.UInt64
physical_type types.float16 = physical.Primitive primitive.Float16
physical_type types.float32 = physical.Primitive primitive.Float32
physical_type types.float64 = physical.Primitive primitive.Float64
physical_type (types.timestamp u z) = physical.Primitive primitive.Int64
physical_type types.date32 = physical.Primitive primitive.Int32
physical_type types.date64 = physical.Primitive primitive.Int64
physical_type (types.time32 u) = physical.Primitive primitive.Int32
physical_type (types.time64 u) = physical.Primitive primitive.Int64
physical_type (types.duration u) = physical.Primitive primitive.Int64
physical_type (types.interval u) = physical.Primitive (interval_type u)
physical_type types.binary = physical.Binary
physical_type (types.fixed_size_binary s) = physical.FixedSizeBinary
physical_type types.large_binary = physical.LargeBinary
physical_type types.utf8 = physical.Utf8
physical_type types.large_utf8 = physical.LargeUtf8
physical_type (types.list f) = physical.List
physical_type (types.fixed_size_list f s) = physical.FixedSizeList
physical_type (types.large_list f) = physical.LargeList
physical_type (types.struct fs) = physical.Struct
physical_type (types.union fs ids mode) = physical.Union
physical_type (types.map f b) = physical.Map
physical_type (types.dictionary k t b) = physical.Dictionary k
physical_type (types.decimal p s) = physical.Primitive primitive.Int128
physical_type (types.decimal256 p s) = physical.Primitive primitive.Int256
physical_type (types.extension n t m) = physical_type t

-- "Variable-size List Layout", "Variable-size Binary Layout": large layouts have 64-bit offsets, others 32-bit ones.
abbrev pub list_of_width : Bool → PhysicalType
list_of_width large = if large then physical.LargeList else physical.List

abbrev pub binary_of_width : Bool → PhysicalType
binary_of_width large = if large then physical.LargeBinary else physical.Binary

abbrev pub utf8_of_width : Bool → PhysicalType
utf8_of_width large = if large then physical.LargeUtf8 else physical.Utf8

-- As in arrow2: the data type of dictionary keys, and the default data type of a native type.
abbrev pub integer_tree : IntegerType → TypeTree
integer_tree integers.Int8 = types.int8
integer_tree integers.Int16 = types.int16
integer_tree integers.Int32 = types.int32
integer_tree integers.Int64 = types.int64
integer_tree integers.UInt8 = types.uint8
integer_tree integers.UInt16 = types.uint16
integer_tree integers.UInt32 = types.uint32
integer_tree integers.UInt64 = types.uint64

abbrev pub primitive_tree : PrimitiveType → TypeTree
primitive_tree primitive.Int8 = types.int8
primitive_tree primitive.Int16 = types.int16
primitive_tree primitive.Int32 = types.int32
primitive_tree primitive.Int64 = types.int64
primitive_tree primitive.Int128 = types.decimal 32 32
primitive_tree primitive.Int256 = types.decimal256 32 32
primitive_tree primitive.UInt8 = types.uint8
primitive_tree primitive.UInt16 = types.uint16
primitive_tree primitive.UInt32 = types.uint32
primitive_tree primitive.UInt64 = types.uint64
primitive_tree primitive.Float16 = types.float16
primitive_tree primitive.Float32 = types.float32
primitive_tree primitive.Float64 = types.float64
primitive_tree primitive.DaysMs = types.interval DayTime
primitive_tree primitive.MonthDayNano = types.interval MonthDayNano

-- The physical type of the default data type is the native type.
pub physical_type-primitive_tree : (p : PrimitiveType) → physical_type (primitive_tree p) ≡ physical.Primitive p
physical_type-primitive_tree primitive.Int8 = refl
physical_type-primitive_tree primitive.Int16 = refl
physical_type-primitive_tree primitive.Int32 = refl
physical_type-primitive_tree primitive.Int64 = refl
physical_type-primitive_tree primitive.Int128 = refl
physical_type-primitive_tree primitive.Int256 = refl
physical_type-primitive_tree primitive.UInt8 = refl
physical_type-primitive_tree primitive.UInt16 = refl
physical_type-primitive_tree primitive.UInt32 = refl
physical_type-primitive_tree primitive.UInt64 = refl
physical_type-primitive_tree primitive.Float16 = refl
physical_type-primitive_tree primitive.Float32 = refl
physical_type-primitive_tree primitive.Float64 = refl
physical_type-primitive_tree primitive.DaysMs = refl
physical_type-primitive_tree primitive.MonthDayNano = refl
