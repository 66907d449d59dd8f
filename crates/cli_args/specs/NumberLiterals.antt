-- Decimal numbers of conditions, and the floating-point numbers nearest to them.
use Rattle.std.specs.Prelude.{ℕ, ℤ, List, ◌++◌, codes, unwrap_or, option_map}
use Rattle.std.specs.Float.Ieee.{Format, binary32, binary64, to_bits}
use Rattle.std.specs.Float.Parse.{parse_float}
use Rattle.std.specs.Fmt.{decimal, signed_decimal}
use Rattle.cli_args.specs.Conditions.{LiteralTree, NumberTree, number}

-- the number value / 10^digits as a text
abbrev pub decimal_text : ℤ → ℕ → List ℕ
decimal_text value digits = signed_decimal value ++ codes "e-" ++ decimal digits

-- the bits of the number of a format that a text reads as: the nearest, at a tie the even one (IEEE 754, section 4.3.1)
abbrev pub bits_of_text : Format → List ℕ → ℕ
bits_of_text f text = unwrap_or (option_map (to_bits f) (parse_float f text)) 0

abbrev pub nearest_bits : Format → ℤ → ℕ → ℕ
nearest_bits f value digits = bits_of_text f (decimal_text value digits)

abbrev pub number_of_decimal : ℤ → ℕ → NumberTree
number_of_decimal v k = record { value = v; digits = k; single = nearest_bits binary32 v k; double = nearest_bits binary64 v k }

-- the literal v / 10^k
abbrev pub decimal_number : ℤ → ℕ → LiteralTree
decimal_number v k = number (number_of_decimal v k)
