-- A number in units of 10^-25. Each number half way between two halves is a whole number of them, so these digits decide the nearest half.
use Rattle.std.specs.Prelude.{◌≡◌, ℕ, ◌+◌, ◌-◌, ◌*◌, ◌/◌, ◌%◌, ◌^◌, ◌↔◌, Bool, IsFalse, length, min, if◌then◌else◌}
use Rattle.std.specs.Str.Parse.{digits_value}
use Rattle.fast_float.specs.Text.{Parts}

-- num / den in these units, rounded down, and whether anything was cut off
pub record IsScaled (num den units : ℕ) (more : Bool) : Type 0 where
  pub whole : units ≡ num * 10 ^ 25 / den
  pub rest : IsFalse more ↔ num * 10 ^ 25 % den ≡ 0

-- The digits before the cut, with zeros after those that are written. An exponent counts at most 2^64 - 1, which moves all digits.
abbrev pub spec_digits_before_cut : Parts → ℕ
spec_digits_before_cut p =
    if p.exponent_negative then length p.whole + 25 - min (digits_value 10 p.exponent) (2 ^ 64 - 1)
    else length p.whole + 25 + min (digits_value 10 p.exponent) (2 ^ 64 - 1)
