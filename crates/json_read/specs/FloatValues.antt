-- Floating-point numbers from JSON, by their bits: a JSON number, rounded to the nearest, at a tie to even, or the string "NaN", "Infinity" or
-- "-Infinity".
use Rattle.std.specs.Prelude.{ℕ, ℤ, pos, ◌||◌, Bool, List, [], ◌∷◌, bytes_eq, codes, Option, Some, None, if◌then◌else◌}
use Rattle.std.specs.Float.Ieee.{Format, to_bits}
use Rattle.std.specs.Float.Parse.{parse_float}
use Rattle.std.specs.Option.{option_map}
use Rattle.float_text.specs.Text.{is_finite}
use Rattle.json.specs.Json as json
use Rattle.json.specs.Json.{Json}
use Rattle.json_read.specs.HalfNumbers.{half_name_bits, half_number_bits}
use Rattle.json_write.specs.Floats.{float_format}
use Rattle.nest_memory.specs.declared.datatypes.floats.Precision.{Precision}
use Rattle.nest_memory.specs.declared.datatypes.floats.Precision.TheVariants.{Half}

-- the bits of the number that a text reads as
abbrev pub text_bits : Format → List ℕ → Option ℕ
text_bits f s = option_map (to_bits f) (parse_float f s)

abbrev pub if_finite : Format → Option ℕ → Option ℕ
if_finite f None = None
if_finite f (Some bits) = if is_finite f bits then Some bits else None

-- of a JSON number, unless it is past the range
abbrev pub number_bits : Format → List ℕ → Option ℕ
number_bits f s = if_finite f (text_bits f s)

-- the strings of the numbers that are not finite
abbrev pub spec_is_float_name : List ℕ → Bool
spec_is_float_name s = bytes_eq s (codes "NaN") || (bytes_eq s (codes "Infinity") || bytes_eq s (codes "-Infinity"))

abbrev pub name_bits : Format → List ℕ → Option ℕ
name_bits f s = if spec_is_float_name s then text_bits f s else None

abbrev pub number_bits_of : Precision → List ℕ → Option ℕ
number_bits_of Half s = half_number_bits s
number_bits_of p s = number_bits (float_format p) s

abbrev pub name_bits_of : Precision → List ℕ → Option ℕ
name_bits_of Half s = half_name_bits s
name_bits_of p s = name_bits (float_format p) s

abbrev pub float_bits_of : Precision → Json → Option ℕ
float_bits_of p (json.number s) = number_bits_of p s
float_bits_of p (json.string s) = name_bits_of p s
float_bits_of p j = None

-- the bits as the number of a native value
abbrev pub bits_number : Option ℕ → List ℤ
bits_number None = []
bits_number (Some bits) = pos bits ∷ []

abbrev pub float_numbers : Precision → Json → List ℤ
float_numbers p j = bits_number (float_bits_of p j)
