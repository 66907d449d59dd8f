-- Dictionary keys, which the format calls indices: integers that are indices of values (Arrow: "Dictionary-encoded Layout").
use Rattle.std.specs.Prelude.{◌≡◌, ◌<◌, ℕ, pos, Bool, true, false, ℤ, List, [], ◌∷◌, length, get_or, map, Option, None, Some, if◌then◌else◌}
use Rattle.std.specs.Borrow.{Bor}
use Rattle.std.specs.Int.{w8, w16, w32, w64}
use Rattle.std.specs.List.{range_with_len}
use Rattle.std.specs.Option.{option_map}
use Rattle.nest_memory.specs.TypeEq.{same_type}
use Rattle.nest_memory.specs.TypeTree.{TypeTree, logical_type, key_type}
use Rattle.nest_memory.specs.declared.datatypes.IntegerType.{IntegerType}
use Rattle.nest_memory.specs.declared.datatypes.IntegerType.TheVariants as integers
use Rattle.nest_memory.specs.declared.datatypes.physical_type.PrimitiveType.{PrimitiveType}
use Rattle.nest_memory.specs.declared.datatypes.physical_type.PrimitiveType.TheVariants as primitives
use Rattle.nest_model.specs.Accessors.{validity_of, key_at, key_type_of}
use Rattle.nest_model.specs.Fits.{is_dictionary}
use Rattle.nest_model.specs.Layout.{Layout}
use Rattle.nest_model.specs.Meaning.{len}
use Rattle.nest_model.specs.Part.{Validity, valid_at}
use Rattle.nest_array.specs.Seen.{layout_of}
use Rattle.nest_array.specs.declared.any.AnyArray.{AnyArray}
use Rattle.ipc_arrays.specs.FixedWidth.{ByteFormat, signed_format, unsigned_format}

-- the primitive type of keys
abbrev pub key_primitive : IntegerType → PrimitiveType
key_primitive integers.Int8 = primitives.Int8
key_primitive integers.Int16 = primitives.Int16
key_primitive integers.Int32 = primitives.Int32
key_primitive integers.Int64 = primitives.Int64
key_primitive integers.UInt8 = primitives.UInt8
key_primitive integers.UInt16 = primitives.UInt16
key_primitive integers.UInt32 = primitives.UInt32
key_primitive integers.UInt64 = primitives.UInt64

abbrev pub key_format : IntegerType → ByteFormat
key_format integers.Int8 = signed_format w8
key_format integers.Int16 = signed_format w16
key_format integers.Int32 = signed_format w32
key_format integers.Int64 = signed_format w64
key_format integers.UInt8 = unsigned_format w8
key_format integers.UInt16 = unsigned_format w16
key_format integers.UInt32 = unsigned_format w32
key_format integers.UInt64 = unsigned_format w64

-- the key of a null slot: 0
abbrev pub null_key : List ℤ
null_key = pos 0 ∷ []

-- the key of a slot, or 0 if it is null
abbrev pub key_or_zero : Validity → List (List ℤ) → ℕ → List ℤ
key_or_zero va values i = if valid_at va i then get_or values i null_key else null_key

unfoldable pub zero_at_nulls : Validity → List (List ℤ) → List (List ℤ)
zero_at_nulls va values = map (key_or_zero va values) (range_with_len 0 (length values))

-- the key of each null slot is 0
abbrev pub AreZeroAtNulls : Layout → Type 0
AreZeroAtNulls ks = (i : ℕ) → i < len ks → valid_at (validity_of ks) i ≡ false → key_at ks i ≡ pos 0

-- keys as they are read for dictionaries of a type
pub record AreKeysOf (t : TypeTree) (ks : Layout) : Type 0 where
  pub kind : is_dictionary t ≡ true
  pub typed : key_type t ≡ key_type_of ks
  pub blank : AreZeroAtNulls ks

-- whether two types are the same once extensions are resolved
abbrev pub is_same_logical_type : Option TypeTree → TypeTree → Bool
is_same_logical_type None t = false
is_same_logical_type (Some u) t = same_type (logical_type u) (logical_type t)

-- the layout of dictionary values
abbrev pub dictionary_of : Option (Bor AnyArray) → Option Layout
dictionary_of values = option_map (λ a. layout_of a.now) values
