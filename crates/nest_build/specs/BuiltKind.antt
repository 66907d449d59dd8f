-- The native type of a primitive builder of any native type.
use Rattle.nest_memory.specs.declared.datatypes.physical_type.PrimitiveType.{PrimitiveType}
use Rattle.nest_memory.specs.declared.datatypes.physical_type.PrimitiveType.TheVariants as primitives
use Rattle.nest_flat.specs.declared.any_primitive.mutable.AnyMutablePrimitive.{AnyMutablePrimitive}
use Rattle.nest_flat.specs.declared.any_primitive.mutable.AnyMutablePrimitive.TheVariants as any

abbrev pub built_kind : AnyMutablePrimitive → PrimitiveType
built_kind (any.Int8 b) = primitives.Int8
built_kind (any.Int16 b) = primitives.Int16
built_kind (any.Int32 b) = primitives.Int32
built_kind (any.Int64 b) = primitives.Int64
built_kind (any.Int128 b) = primitives.Int128
built_kind (any.Int256 b) = primitives.Int256
built_kind (any.UInt8 b) = primitives.UInt8
built_kind (any.UInt16 b) = primitives.UInt16
built_kind (any.UInt32 b) = primitives.UInt32
built_kind (any.UInt64 b) = primitives.UInt64
built_kind (any.DaysMs b) = primitives.DaysMs
built_kind (any.MonthDayNano b) = primitives.MonthDayNano
