-- JSON values as slots without children, and their errors. Literals are booleans. A number is a native value of one number, an array of
-- integers one of several, and a string one that is written as text. Other strings are UTF-8, or binary data as pairs of hexadecimal
-- digits.
use Rattle.std.specs.Prelude.{ℕ, ◌*◌, ◌+◌, ◌-◌, ◌^◌, ℤ, pos, neg_ℤ, List, [], ◌∷◌, Bool, true, false, nat_lt, int_lt, ◌==◌, ◌&&◌, not, length, Option, Some, None, is_some, unwrap_or, if◌then◌else◌}
use Rattle.std.specs.Char.{digit_value}
use Rattle.json.specs.Json as json
use Rattle.json.specs.Json.{Json, Items, no_items, item}
use Rattle.json_read.specs.FloatValues.{float_bits_of}
use Rattle.json_read.specs.Integers.{integer_of}
use Rattle.json_read.specs.TextNumbers.{numbers_of_text, is_within_precision}
use Rattle.json_read.specs.declared.value_error.ValueError.{ValueError}
use Rattle.json_read.specs.declared.value_error.ValueError.TheVariants.{WrongType, NotAnInteger, OutOfRange, InvalidText, PrecisionExceeded, InvalidHex, WrongLength}
use Rattle.nest_memory.specs.declared.datatypes.floats.Precision.{Precision}
use Rattle.nest_memory.specs.declared.datatypes.physical_type.PhysicalType.{PhysicalType}
use Rattle.nest_memory.specs.declared.datatypes.physical_type.PhysicalType.TheVariants as physical
use Rattle.nest_memory.specs.declared.datatypes.physical_type.PrimitiveType.{PrimitiveType}
use Rattle.nest_memory.specs.declared.datatypes.physical_type.PrimitiveType.TheVariants as primitive
use Rattle.json_write.specs.Formats.{has_format}
use Rattle.json_write.specs.declared.format.ValueFormat.{ValueFormat}
use Rattle.json_write.specs.declared.format.ValueFormat.TheVariants.{Number, Decimal, Decimal256, Float}

-- one error before another
abbrev pub first_error : Option ValueError → Option ValueError → Option ValueError
first_error None rest = rest
first_error (Some e) rest = Some e

abbrev pub error_unless : Bool → ValueError → Option ValueError
error_unless b e = if b then None else Some e

-- ---- numbers

-- the signed or unsigned integers of so many bits
pub data Range : Type 0 where
  signed : ℕ → Range
  unsigned : ℕ → Range

abbrev pub is_in : Range → ℤ → Bool
is_in (signed bits) z = not (int_lt z (neg_ℤ (pos (2 ^ (bits - 1))))) && int_lt z (pos (2 ^ (bits - 1)))
is_in (unsigned bits) z = not (int_lt z (pos 0)) && int_lt z (pos (2 ^ bits))

-- the numbers of a native value (Schema.fbs), the high half or the longest unit first; values of the types Float16, Float32 and Float64 cannot be read
abbrev pub ranges_of : PrimitiveType → List Range
ranges_of primitive.Int8 = signed 8 ∷ []
ranges_of primitive.Int16 = signed 16 ∷ []
ranges_of primitive.Int32 = signed 32 ∷ []
ranges_of primitive.Int64 = signed 64 ∷ []
ranges_of primitive.Int128 = signed 128 ∷ []
ranges_of primitive.Int256 = signed 128 ∷ unsigned 128 ∷ []
ranges_of primitive.UInt8 = unsigned 8 ∷ []
ranges_of primitive.UInt16 = unsigned 16 ∷ []
ranges_of primitive.UInt32 = unsigned 32 ∷ []
ranges_of primitive.UInt64 = unsigned 64 ∷ []
ranges_of primitive.Float16 = []
ranges_of primitive.Float32 = []
ranges_of primitive.Float64 = []
ranges_of primitive.DaysMs = signed 32 ∷ signed 32 ∷ []
ranges_of primitive.MonthDayNano = signed 32 ∷ signed 32 ∷ signed 64 ∷ []

-- an integer in the range
abbrev pub integer_error : Range → Option ℤ → Option ValueError
integer_error r None = Some NotAnInteger
integer_error r (Some z) = error_unless (is_in r z) OutOfRange

abbrev pub number_error : Range → Json → Option ValueError
number_error r (json.number s) = integer_error r (integer_of s)
number_error r _ = Some WrongType

-- one number for each range, in order
abbrev pub numbers_error : List Range → Items → Option ValueError
numbers_error [] no_items = None
numbers_error [] (item j js) = Some WrongLength
numbers_error (r ∷ rs) no_items = Some WrongLength
numbers_error (r ∷ rs) (item j js) = first_error (number_error r j) (numbers_error rs js)

-- a value of one number is that number, any other the array of its numbers
abbrev pub native_error : List Range → Json → Option ValueError
native_error (r ∷ []) j = number_error r j
native_error (r ∷ q ∷ rs) (json.array js) = numbers_error (r ∷ q ∷ rs) js
native_error _ _ = Some WrongType

-- the integer of a JSON number; 0 for any other value
abbrev pub number_in : Json → ℤ
number_in (json.number s) = unwrap_or (integer_of s) (pos 0)
number_in _ = pos 0

abbrev pub item_numbers : Items → List ℤ
item_numbers no_items = []
item_numbers (item j js) = number_in j ∷ item_numbers js

-- ---- strings

-- a number in each range
abbrev pub are_in : List Range → List ℤ → Bool
are_in [] [] = true
are_in (r ∷ rs) (z ∷ zs) = is_in r z && are_in rs zs
are_in _ _ = false

-- the numbers with the text, in the ranges of the native type and within the precision
abbrev pub text_error : ValueFormat → List Range → Option (List ℤ) → Option ValueError
text_error v rs None = Some InvalidText
text_error v rs (Some zs) = first_error (error_unless (are_in rs zs) InvalidText) (error_unless (is_within_precision v zs) PrecisionExceeded)

-- ---- floating-point numbers

-- a number past the range, or a string that is no name of a number
abbrev pub float_error : Precision → Json → Option ValueError
float_error p (json.number s) = error_unless (is_some (float_bits_of p (json.number s))) OutOfRange
float_error p (json.string s) = error_unless (is_some (float_bits_of p (json.string s))) InvalidText
float_error p j = Some WrongType

-- ---- native values

-- a value that is never text is no string, a decimal is one
abbrev pub value_error_of : PrimitiveType → ValueFormat → Json → Option ValueError
value_error_of p (Float precision) j = float_error precision j
value_error_of p Number (json.string s) = Some WrongType
value_error_of p v (json.string s) = text_error v (ranges_of p) (numbers_of_text v s)
value_error_of p (Decimal precision scale) j = Some WrongType
value_error_of p (Decimal256 precision scale) j = Some WrongType
value_error_of p v j = native_error (ranges_of p) j

-- ---- bytes

-- a hexadecimal digit of either case
abbrev pub is_hex : ℕ → Bool
is_hex c = nat_lt (digit_value c) 16

-- pairs of hexadecimal digits
abbrev pub are_hex_pairs : List ℕ → Bool
are_hex_pairs [] = true
are_hex_pairs (a ∷ []) = false
are_hex_pairs (a ∷ b ∷ cs) = is_hex a && is_hex b && are_hex_pairs cs

-- the bytes that they encode
abbrev pub bytes_of_hex : List ℕ → List ℕ
bytes_of_hex [] = []
bytes_of_hex (a ∷ []) = []
bytes_of_hex (a ∷ b ∷ cs) = (digit_value a * 16 + digit_value b) ∷ bytes_of_hex cs

abbrev pub hex_error : List ℕ → Option ValueError
hex_error s = error_unless (are_hex_pairs s) InvalidHex

-- ---- slots without children

-- the error of a non-null value for a physical type; `size` is the size of fixed-size binary, `v` the format of native values
abbrev pub flat_error : PhysicalType → ℕ → ValueFormat → Json → Option ValueError
flat_error physical.Boolean size v (json.boolean b) = None
flat_error (physical.Primitive p) size v j = value_error_of p v j
flat_error physical.Utf8 size v (json.string s) = None
flat_error physical.LargeUtf8 size v (json.string s) = None
flat_error physical.Binary size v (json.string s) = hex_error s
flat_error physical.LargeBinary size v (json.string s) = hex_error s
flat_error physical.FixedSizeBinary size v (json.string s) = first_error (hex_error s) (error_unless (length (bytes_of_hex s) == size) WrongLength)
flat_error _ size v _ = Some WrongType

-- the native values of the physical type have the format
abbrev pub has_values_format : PhysicalType → ValueFormat → Bool
has_values_format (physical.Primitive p) v = has_format p v
has_values_format _ v = true

-- binary physical types
abbrev pub is_bytes : PhysicalType → Bool
is_bytes physical.Binary = true
is_bytes physical.LargeBinary = true
is_bytes physical.FixedSizeBinary = true
is_bytes _ = false
