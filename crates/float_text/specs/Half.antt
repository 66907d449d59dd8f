-- Half-precision numbers (IEEE 754-2019, section 3.4, binary16) by their bits: one of the sign, 5 of the exponent and 10 of the digits.
use Rattle.std.specs.Prelude.{ℕ, ◌+◌, ◌-◌, ◌/◌, ◌%◌, ◌==◌, nat_lt, Bool, not, List, if◌then◌else◌}
use Rattle.std.specs.Float.Ieee.{Float, binary32, inf, nan, odd, to_bits}
use Rattle.float_text.specs.Text.{float_text}

-- `odd 11 s m e 24` is the number m * 2 ^ e / 2 ^ 24 with the sign s. The digits have a leading 1, but with an exponent of 0.
abbrev pub half_of_fields : Bool → ℕ → ℕ → Float
half_of_fields is_negative exponent digits =
    if exponent == 31 then (if digits == 0 then inf is_negative else nan)
    else (if exponent == 0 then odd 11 is_negative digits 0 24 else odd 11 is_negative (1024 + digits) (exponent - 1) 24)

abbrev pub half_value : ℕ → Float
half_value bits = half_of_fields (not (nat_lt bits 32768)) (bits % 32768 / 1024) (bits % 1024)

-- the bits of the single-precision number of the same value, and of one NaN for each NaN
abbrev pub single_of_half : ℕ → ℕ
single_of_half bits = to_bits binary32 (half_value bits)

-- a half has the text of that single
abbrev pub half_text : ℕ → List ℕ
half_text bits = float_text binary32 (single_of_half bits)
