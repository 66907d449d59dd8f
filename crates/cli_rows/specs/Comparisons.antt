-- Values compared with literals.
use Rattle.std.specs.Prelude.{ℕ, ℤ, ◌^◌, ◌*ℤ◌, pos, Bool, true, false, List, [], ◌∷◌, Option, Some, None, option_map, from_bits}
use Rattle.std.specs.Option.{option_and_then}
use Rattle.std.specs.Float.Ieee.{Float, binary32, binary64}
use Rattle.std.specs.declared.cmp.Ordering.{Ordering}
use Rattle.std.specs.Ordering.{is_eq, is_ne, is_lt, is_le, is_gt, is_ge, nat_cmp, int_cmp, bool_cmp, float_partial_cmp}
use Rattle.std.specs.Cmp.Lexicographic.{slice_cmp}
use Rattle.nest_memory.specs.declared.datatypes.floats.Precision.{Precision}
use Rattle.nest_memory.specs.declared.datatypes.floats.Precision.TheVariants.{Double}
use Rattle.json_write.specs.Floats.{float_bits, float_format}
use Rattle.nest_model.specs.Slot as slots
use Rattle.nest_model.specs.Slot.{Slot}
use Rattle.cli_args.specs.Conditions as literals
use Rattle.cli_args.specs.Conditions.{LiteralTree, NumberTree}
use Rattle.cli_args.specs.declared.condition.Comparison.{Comparison}
use Rattle.cli_args.specs.declared.condition.Comparison.TheVariants as comparisons
use Rattle.cli_rows.specs.TimeLiterals.{spec_number_of_text}
use Rattle.cli_rows.specs.declared.select.kinds.ValueKind.{ValueKind}
use Rattle.cli_rows.specs.declared.select.kinds.ValueKind.TheVariants as kinds

-- whether a comparison holds of two ordered values
abbrev pub spec_holds : Comparison → Ordering → Bool
spec_holds comparisons.Equal o = is_eq o
spec_holds comparisons.NotEqual o = is_ne o
spec_holds comparisons.Less o = is_lt o
spec_holds comparisons.LessOrEqual o = is_le o
spec_holds comparisons.Greater o = is_gt o
spec_holds comparisons.GreaterOrEqual o = is_ge o

-- whether it holds of two values, of which None says that they are not ordered: then they are not equal
abbrev pub spec_holds_of : Comparison → Option Ordering → Bool
spec_holds_of op (Some o) = spec_holds op o
spec_holds_of comparisons.NotEqual None = true
spec_holds_of op None = false

-- the order of the decimal numbers x / 10^s and y / 10^k
abbrev pub decimal_cmp : ℤ → ℕ → ℤ → ℕ → Ordering
decimal_cmp x s y k = int_cmp (x *ℤ pos (10 ^ k)) (y *ℤ pos (10 ^ s))

-- the value of a slot, or None if it has none of this kind
abbrev pub integer_of : Slot → Option ℤ
integer_of (slots.number (z ∷ [])) = Some z
integer_of s = None

abbrev pub string_of : Slot → Option (List ℕ)
string_of (slots.utf8 bs) = Some bs
string_of s = None

abbrev pub boolean_of : Slot → Option Bool
boolean_of (slots.boolean b) = Some b
boolean_of s = None

-- the floating-point number of the bits of a value; a half is the single of the same value
abbrev pub float_value : Precision → ℤ → Float
float_value p z = from_bits (float_format p) (float_bits p z)

-- the floating-point number of a literal: the nearest double for doubles, else the nearest single
abbrev pub literal_float : Precision → NumberTree → Float
literal_float Double n = from_bits binary64 n.double
literal_float p n = from_bits binary32 n.single

-- the order of floating-point numbers, None with NaN (IEEE 754, section 5.11)
abbrev pub spec_float_order : Precision → NumberTree → ℤ → Option Ordering
spec_float_order p n z = float_partial_cmp (float_value p z) (literal_float p n)

abbrev pub spec_ordered : Option Ordering → Option (Option Ordering)
spec_ordered o = option_map (λ x. Some x) o

-- the order of a number with so many digits after the decimal point, and a literal
abbrev pub spec_number_order : ℕ → Slot → NumberTree → Option Ordering
spec_number_order s v n = option_map (λ x. decimal_cmp x s n.value n.digits) (integer_of v)

-- The order of a value of a kind and a literal: numbers by their values, dates and times as the numbers of their days or units, strings by
-- their bytes, and false before true. None if the value is null, Some None if the two are not ordered.
abbrev pub spec_order : Option ValueKind → LiteralTree → Slot → Option (Option Ordering)
spec_order (Some (kinds.Number s)) (literals.number n) v = spec_ordered (spec_number_order s v n)
spec_order (Some (kinds.Float p)) (literals.number n) v = option_map (spec_float_order p n) (integer_of v)
spec_order (Some (kinds.Temporal u)) (literals.number n) v = spec_ordered (spec_number_order 0 v n)
spec_order (Some (kinds.Temporal u)) (literals.text bs) v = spec_ordered (option_and_then (spec_number_order 0 v) (spec_number_of_text u bs))
spec_order (Some kinds.String) (literals.text bs) v = spec_ordered (option_map (λ cs. slice_cmp nat_cmp cs bs) (string_of v))
spec_order (Some kinds.Boolean) (literals.boolean b) v = spec_ordered (option_map (λ c. bool_cmp c b) (boolean_of v))
spec_order kind literal v = None
