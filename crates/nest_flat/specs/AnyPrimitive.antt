-- The layout and the kind of a primitive array of any native type.
use Rattle.nest_memory.specs.declared.datatypes.physical_type.PrimitiveType.{PrimitiveType}
use Rattle.nest_memory.specs.declared.datatypes.physical_type.PrimitiveType.TheVariants as primitives
use Rattle.nest_model.specs.Layout.{Layout}
use Rattle.nest_flat.specs.declared.any_primitive.AnyPrimitive.{AnyPrimitive}
use Rattle.nest_flat.specs.declared.any_primitive.AnyPrimitive.TheVariants as any

abbrev pub primitive_layout : AnyPrimitive → Layout
primitive_layout (any.Int8 a) = a
primitive_layout (any.Int16 a) = a
primitive_layout (any.Int32 a) = a
primitive_layout (any.Int64 a) = a
primitive_layout (any.Int128 a) = a
primitive_layout (any.Int256 a) = a
primitive_layout (any.UInt8 a) = a
primitive_layout (any.UInt16 a) = a
primitive_layout (any.UInt32 a) = a
primitive_layout (any.UInt64 a) = a
primitive_layout (any.DaysMs a) = a
primitive_layout (any.MonthDayNano a) = a

-- the kind of its values
abbrev pub primitive_kind : AnyPrimitive → PrimitiveType
primitive_kind (any.Int8 a) = primitives.Int8
primitive_kind (any.Int16 a) = primitives.Int16
primitive_kind (any.Int32 a) = primitives.Int32
primitive_kind (any.Int64 a) = primitives.Int64
primitive_kind (any.Int128 a) = primitives.Int128
primitive_kind (any.Int256 a) = primitives.Int256
primitive_kind (any.UInt8 a) = primitives.UInt8
primitive_kind (any.UInt16 a) = primitives.UInt16
primitive_kind (any.UInt32 a) = primitives.UInt32
primitive_kind (any.UInt64 a) = primitives.UInt64
primitive_kind (any.DaysMs a) = primitives.DaysMs
primitive_kind (any.MonthDayNano a) = primitives.MonthDayNano
