-- The hash of a dictionary value: what is written to std's hasher, and its result.
use Rattle.std.specs.Prelude.{ℕ, ℤ, pos, List, [], ◌∷◌, ◌++◌, fold}
use Rattle.std.specs.Hash as fed
use Rattle.std.specs.Hash.DefaultHasher as sip
use Rattle.nest_memory.specs.declared.datatypes.physical_type.PrimitiveType.{PrimitiveType}
use Rattle.nest_memory.specs.declared.datatypes.physical_type.PrimitiveType.TheVariants as primitives
use Rattle.nest_model.specs.BuilderItem as items
use Rattle.nest_model.specs.BuilderItem.{PlainValue}

-- a native value: its integers, in order
abbrev pub native_writes : PrimitiveType → List ℤ → List (List ℕ)
native_writes primitives.Int8 (z ∷ []) = fed.i8 z
native_writes primitives.Int16 (z ∷ []) = fed.i16 z
native_writes primitives.Int32 (z ∷ []) = fed.i32 z
native_writes primitives.Int64 (z ∷ []) = fed.i64 z
native_writes primitives.Int128 (z ∷ []) = fed.i128 z
native_writes primitives.Int256 (z ∷ pos n ∷ []) = fed.i128 z ++ fed.u128 n
native_writes primitives.UInt8 (pos n ∷ []) = fed.u8 n
native_writes primitives.UInt16 (pos n ∷ []) = fed.u16 n
native_writes primitives.UInt32 (pos n ∷ []) = fed.u32 n
native_writes primitives.UInt64 (pos n ∷ []) = fed.u64 n
native_writes primitives.DaysMs (z ∷ w ∷ []) = fed.i32 z ++ fed.i32 w
native_writes primitives.MonthDayNano (z ∷ w ∷ u ∷ []) = fed.i32 z ++ fed.i32 w ++ fed.i64 u
native_writes _ _ = []

abbrev pub value_writes : PlainValue → List (List ℕ)
value_writes (items.boolean b) = fed.bool b
value_writes (items.native p zs) = native_writes p zs
value_writes (items.utf8 t) = fed.str t
value_writes (items.bytes b) = fed.slice fed.u8 b

unfoldable pub value_hash : PlainValue → ℕ
value_hash v = sip.finish (fold sip.write sip.initial (value_writes v))
