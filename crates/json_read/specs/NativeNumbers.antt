-- JSON values as integers of a range and as native values.
use Rattle.std.specs.Prelude.{◌≡◌, ℕ, ℤ, pos, List, [], ◌∷◌, Some, None, is_some, unwrap_or, Result, Ok, Err, if◌then◌else◌}
use Rattle.json.specs.Json as json
use Rattle.json.specs.Json.{Json}
use Rattle.nest_flat.specs.AnyNative.{native_kind, native_numbers}
use Rattle.nest_flat.specs.declared.any_native.AnyNative.{AnyNative}
use Rattle.json_read.specs.FlatValues.{Range, signed, unsigned, number_error, number_in, item_numbers, native_error, ranges_of, value_error_of}
use Rattle.json_read.specs.FloatValues.{float_numbers}
use Rattle.json_read.specs.TextNumbers.{numbers_of_text}
use Rattle.json_read.specs.Integers.{integer_of}
use Rattle.json_read.specs.declared.value_error.ValueError.{ValueError}
use Rattle.json_read.specs.declared.value_error.ValueError.TheVariants.{NotAnInteger, OutOfRange}
use Rattle.json_write.specs.declared.format.ValueFormat.{ValueFormat}
use Rattle.json_write.specs.declared.format.ValueFormat.TheVariants.{Float}
use Rattle.nest_memory.specs.declared.datatypes.physical_type.PrimitiveType.{PrimitiveType}
use Rattle.nest_memory.specs.declared.datatypes.physical_type.PrimitiveType.TheVariants as primitive

-- the integer of the value, which is in the range, or its error
abbrev pub ReadsNumber : {A : Type 0} → (A → ℤ) → Range → Json → Result A ValueError → Type 0
ReadsNumber to r j (Ok x) = (number_error r j ≡ None) × (number_in j ≡ to x)
ReadsNumber to r j (Err e) = number_error r j ≡ Some e

abbrev pub ReadsSigned : ℕ → Json → Result ℤ ValueError → Type 0
ReadsSigned bits = ReadsNumber (λ z. z) (signed bits)

abbrev pub ReadsUnsigned : ℕ → Json → Result ℕ ValueError → Type 0
ReadsUnsigned bits = ReadsNumber pos (unsigned bits)

-- the error of a number that is not in its range
abbrev pub spec_range_error : List ℕ → ValueError
spec_range_error s = if is_some (integer_of s) then OutOfRange else NotAnInteger

-- native values of several numbers
abbrev pub HasSeveralNumbers : PrimitiveType → Type 0
HasSeveralNumbers primitive.Int256 = Unit {0}
HasSeveralNumbers primitive.DaysMs = Unit {0}
HasSeveralNumbers primitive.MonthDayNano = Unit {0}
HasSeveralNumbers _ = ⊥

-- the numbers of a JSON value: those of an array, or the number itself
abbrev pub numbers_in : Json → List ℤ
numbers_in (json.array js) = item_numbers js
numbers_in j = number_in j ∷ []

-- the native value of that type, or its error
abbrev pub ReadsNative : PrimitiveType → Json → Result AnyNative ValueError → Type 0
ReadsNative kind j (Ok x) = (native_error (ranges_of kind) j ≡ None) × (native_kind x ≡ kind) × (native_numbers x ≡ numbers_in j)
ReadsNative kind j (Err e) = native_error (ranges_of kind) j ≡ Some e

-- the numbers of a JSON number
abbrev pub number_values : ValueFormat → List ℕ → List ℤ
number_values (Float precision) s = float_numbers precision (json.number s)
number_values v s = number_in (json.number s) ∷ []

-- the numbers of a JSON string
abbrev pub string_values : ValueFormat → List ℕ → List ℤ
string_values (Float precision) s = float_numbers precision (json.string s)
string_values v s = unwrap_or (numbers_of_text v s) []

-- the numbers of a JSON value under a format
abbrev pub value_numbers : ValueFormat → Json → List ℤ
value_numbers v (json.number s) = number_values v s
value_numbers v (json.string s) = string_values v s
value_numbers v j = numbers_in j

-- the native value of that type and that format, or its error
abbrev pub ReadsNativeValue : PrimitiveType → ValueFormat → Json → Result AnyNative ValueError → Type 0
ReadsNativeValue kind v j (Ok x) = (value_error_of kind v j ≡ None) × (native_kind x ≡ kind) × (native_numbers x ≡ value_numbers v j)
ReadsNativeValue kind v j (Err e) = value_error_of kind v j ≡ Some e
