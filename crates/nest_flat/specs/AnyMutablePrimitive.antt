-- The layout of a builder of a primitive array of any native type.
use Rattle.nest_model.specs.Layout.{Layout}
use Rattle.nest_flat.specs.declared.any_primitive.mutable.AnyMutablePrimitive.{AnyMutablePrimitive}
use Rattle.nest_flat.specs.declared.any_primitive.mutable.AnyMutablePrimitive.TheVariants as any

-- the layout of the slots so far
abbrev pub built_layout : AnyMutablePrimitive → Layout
built_layout (any.Int8 b) = b
built_layout (any.Int16 b) = b
built_layout (any.Int32 b) = b
built_layout (any.Int64 b) = b
built_layout (any.Int128 b) = b
built_layout (any.Int256 b) = b
built_layout (any.UInt8 b) = b
built_layout (any.UInt16 b) = b
built_layout (any.UInt32 b) = b
built_layout (any.UInt64 b) = b
built_layout (any.DaysMs b) = b
built_layout (any.MonthDayNano b) = b
