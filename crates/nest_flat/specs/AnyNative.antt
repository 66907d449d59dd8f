-- The kind and the numbers of a native value.
use Rattle.std.specs.Prelude.{ℤ, List}
use Rattle.nest_memory.specs.Native.{signed, unsigned}
use Rattle.nest_memory.specs.NativeStructs.{halves, days_numbers, months_numbers}
use Rattle.nest_memory.specs.declared.datatypes.physical_type.PrimitiveType.{PrimitiveType}
use Rattle.nest_memory.specs.declared.datatypes.physical_type.PrimitiveType.TheVariants as primitives
use Rattle.nest_flat.specs.declared.any_native.AnyNative.{AnyNative}
use Rattle.nest_flat.specs.declared.any_native.AnyNative.TheVariants as any

abbrev pub native_kind : AnyNative → PrimitiveType
native_kind (any.Int8 x) = primitives.Int8
native_kind (any.Int16 x) = primitives.Int16
native_kind (any.Int32 x) = primitives.Int32
native_kind (any.Int64 x) = primitives.Int64
native_kind (any.Int128 x) = primitives.Int128
native_kind (any.Int256 x) = primitives.Int256
native_kind (any.UInt8 x) = primitives.UInt8
native_kind (any.UInt16 x) = primitives.UInt16
native_kind (any.UInt32 x) = primitives.UInt32
native_kind (any.UInt64 x) = primitives.UInt64
native_kind (any.DaysMs x) = primitives.DaysMs
native_kind (any.MonthDayNano x) = primitives.MonthDayNano

-- its integers, high half or longest unit first
abbrev pub native_numbers : AnyNative → List ℤ
native_numbers (any.Int8 x) = signed x
native_numbers (any.Int16 x) = signed x
native_numbers (any.Int32 x) = signed x
native_numbers (any.Int64 x) = signed x
native_numbers (any.Int128 x) = signed x
native_numbers (any.Int256 x) = halves x
native_numbers (any.UInt8 x) = unsigned x
native_numbers (any.UInt16 x) = unsigned x
native_numbers (any.UInt32 x) = unsigned x
native_numbers (any.UInt64 x) = unsigned x
native_numbers (any.DaysMs x) = days_numbers x
native_numbers (any.MonthDayNano x) = months_numbers x
