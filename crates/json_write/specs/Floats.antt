-- Floating-point numbers by their bits. A finite number is a JSON number. JSON has no others (RFC 8259, section 6), so they are strings.
use Rattle.std.specs.Prelude.{ℕ, ℤ, unsigned_abs, List, if◌then◌else◌}
use Rattle.std.specs.Float.Ieee.{Format, binary32, binary64}
use Rattle.json.specs.Json as json
use Rattle.json.specs.Json.{Json}
use Rattle.json.specs.Print.{quoted}
use Rattle.float_text.specs.Half.{single_of_half}
use Rattle.float_text.specs.Text.{float_text, is_finite}
use Rattle.nest_memory.specs.declared.datatypes.floats.Precision.{Precision}
use Rattle.nest_memory.specs.declared.datatypes.floats.Precision.TheVariants.{Half, Single, Double}

-- a half is written as the single of the same value
abbrev pub float_format : Precision → Format
float_format Half = binary32
float_format Single = binary32
float_format Double = binary64

abbrev pub float_bits : Precision → ℤ → ℕ
float_bits Half z = single_of_half (unsigned_abs z)
float_bits Single z = unsigned_abs z
float_bits Double z = unsigned_abs z

abbrev pub json_of_bits : Format → ℕ → List ℕ
json_of_bits f bits = if is_finite f bits then float_text f bits else quoted (float_text f bits)

abbrev pub tree_of_bits : Format → ℕ → Json
tree_of_bits f bits = if is_finite f bits then json.number (float_text f bits) else json.string (float_text f bits)

abbrev pub json_of_float : Precision → ℤ → List ℕ
json_of_float p z = json_of_bits (float_format p) (float_bits p z)

abbrev pub tree_of_float : Precision → ℤ → Json
tree_of_float p z = tree_of_bits (float_format p) (float_bits p z)
