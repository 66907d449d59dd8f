-- Half-precision numbers (IEEE 754-2019, section 3.4, binary16) from decimal text, by their bits: the half nearest to the number that the text
-- denotes, at a tie the even one.
use Rattle.std.specs.Prelude.{ℕ, ◌+◌, ◌-◌, ◌*◌, ◌/◌, ◌%◌, ◌^◌, ◌==◌, ◌&&◌, nat_lt, Bool, List, drop, length, slice_index, bytes_eq, codes, Option, Some, None, if◌then◌else◌}
use Rattle.std.specs.Float.Ieee.{size}
use Rattle.std.specs.Option.{option_map}
use lib.Ieee.Nearest.{closest}
use Rattle.fast_float.specs.Text.{Parts, scan, has_digits, digits_of, minus, tens_up, tens_down}
use Rattle.fast_float.specs.Parse.{sign_len}

-- ---- rounding

-- num / den is measured in units of 2^-24, the least half above 0. Of its whole part 11 binary digits are kept; so many more it has.
abbrev pub dropped : ℕ → ℕ → ℕ
dropped num den = size (num * 2 ^ 24 / den) - 11

-- the bits of the nearest half: its multiple of 2^k units, of which the leading one of 11 digits adds one to the exponent
abbrev pub nearest_half : ℕ → ℕ → ℕ
nearest_half num den = let k = dropped num den in k * 1024 + closest (num * 2 ^ 24) (den * 2 ^ k)

-- The bits of infinity, 31744, and those after them are out of range.
abbrev pub if_in_range : ℕ → Option ℕ
if_in_range bits = if nat_lt bits 31_744 then Some bits else None

-- ---- numbers

abbrev pub half_of_parts : Parts → Option ℕ
half_of_parts p = if_in_range (nearest_half (digits_of p * 10 ^ tens_up p) (10 ^ tens_down p))

abbrev pub with_sign : Bool → ℕ → ℕ
with_sign negative bits = if negative then 32_768 + bits else bits

-- the numeral of a text, after a sign
abbrev pub numeral_in : List ℕ → Parts
numeral_in s = scan (drop (sign_len s) s)

-- all of the text is a number
abbrev pub spec_is_number : List ℕ → Bool
spec_is_number s = has_digits (numeral_in s) && (sign_len s + (numeral_in s).len == length s)

-- the bits of the half nearest to the number, unless it is out of range
abbrev pub half_number_bits : List ℕ → Option ℕ
half_number_bits s = if spec_is_number s then option_map (with_sign (slice_index s 0 == minus)) (half_of_parts (numeral_in s)) else None

-- the bits of the halves that are not finite, by their names
abbrev pub half_name_bits : List ℕ → Option ℕ
half_name_bits s = if bytes_eq s (codes "NaN") then Some 0x7e00 else (if bytes_eq s (codes "Infinity") then Some 0x7c00 else (if bytes_eq s (codes "-Infinity") then Some 0xfc00 else None))

-- ---- distances, of which the nearest half has the least

-- the number of a half without a sign, in units of 2^-24; the bits of infinity count as 2^16, which follows the largest half
abbrev pub half_units : ℕ → ℕ
half_units bits = if nat_lt bits 1024 then bits else (1024 + bits % 1024) * 2 ^ (bits / 1024 - 1)

-- how far a half is from num / den, in units of 2^-24 / den
abbrev pub distance : ℕ → ℕ → ℕ → ℕ
distance num den bits = (num * 2 ^ 24 - half_units bits * den) + (half_units bits * den - num * 2 ^ 24)
