-- The half nearest to a number, from the number in units of 10^-25, rounded down.
use Rattle.std.proofs.Common.{◌≡◌, ℕ, suc, ◌+◌, ◌-◌, ◌*◌, ◌/◌, ◌%◌, ◌^◌, ◌<◌, ◌≤◌, Bool, inl, inr, sym, ap, subst, ◌∙◌, arith, mul-pos, pow-add}
use Rattle.std.specs.Int.Count.{count_leading_zeros, leading_of_zero}
use Rattle.std.proofs.lemmas.Nat.{leading_top}
use native.Mathlib.Nat.{eq-zero-or-pos, div-div-eq-div-mul, mul-div-mul_right, lt_of_not-le, not-le_of_lt, lt_of_lt_of_le, le-div_iff_mul-le, pow-zero}
use lib.Ieee.{size}
use lib.Ieee.Digits.{size-lt, size-le, size_reaches}
use lib.Ieee.Nearest.{closest, closest_same, nearest-ge}
use lib.Pow.{pow_mono, pow_pos}
use Rattle.json_read.specs.HalfNumbers.{dropped, nearest_half}
use Rattle.json_read.specs.ScaledNumbers.{IsScaled}
use Rattle.float_text.specs.Shortest.{in_units}
use Rattle.json_read.proofs.ClosestIntegers.{closest-of-digits}

module _ (num den units : ℕ) (more : Bool) (D : 0 < den) (is : IsScaled num den units more) where
  -- 2 * 5^25 units are 2^-24
  step-is : (j : ℕ) → num * 2 ^ 24 * (den * (596046447753906250 * 2 ^ j)) ≡ num * 10 ^ 25 * (den * 2 ^ j)
  step-is j = grind arith

  pub steps : units / 596046447753906250 ≡ num * 2 ^ 24 / den
  steps =
      let cut : units / 596046447753906250 ≡ num * 10 ^ 25 / (den * 596046447753906250) = ap (λ x. x / 596046447753906250) is.whole ∙ div-div-eq-div-mul (num * 10 ^ 25) den 596046447753906250 in
      let same : num * 10 ^ 25 ≡ num * 2 ^ 24 * 596046447753906250 = omega arith in
      cut ∙ ap (λ x. x / (den * 596046447753906250)) same ∙ mul-div-mul_right {m = 596046447753906250} (num * 2 ^ 24) den (omega arith)

  pub rounded-is : (j : ℕ) → in_units units more (596046447753906250 * 2 ^ j) ≡ closest (num * 2 ^ 24) (den * 2 ^ j)
  rounded-is j =
      let unit = 596046447753906250 * 2 ^ j in
      let some : 0 < 2 ^ j = pow_pos j in
      let even : unit % 2 ≡ 0 = omega arith in
      let digits = closest-of-digits (num * 10 ^ 25) den unit D (omega (arith, some)) even more is.rest.0 is.rest.1 in
      ap (λ d. in_units d more unit) is.whole
      ∙ sym digits
      ∙ closest_same (num * 10 ^ 25) (den * unit) (num * 2 ^ 24) (den * 2 ^ j) (mul-pos D (omega (arith, some))) (mul-pos D some) (sym (step-is j))

  pub half-is : dropped num den * 1024 + in_units units more (596046447753906250 * 2 ^ dropped num den) ≡ nearest_half num den
  half-is = ap (λ x. dropped num den * 1024 + x) (rounded-is (dropped num den))

-- ---- numbers that are past the range

-- a number of 2^j and more has more than j digits
size-gt : (n j : ℕ) → 2 ^ j ≤ n → j < size n
size-gt n j h = lt_of_not-le (λ (g : size n ≤ j). not-le_of_lt (lt_of_lt_of_le (size-lt n) (pow_mono g)) h)

-- 2^100 units are 2^40 steps and more
large-steps : (num den : ℕ) → 0 < den → 2 ^ 100 * den ≤ num * 10 ^ 25 → 2 ^ 40 ≤ num * 2 ^ 24 / den
large-steps num den D h = (le-div_iff_mul-le D).1 (omega (arith, h))

few-left : (x k z : ℕ) → 30 ≤ k → z ≡ k + 11 → 2 ^ (k + 10) ≤ x → 1024 ≤ x / 2 ^ k
few-left x k z h e l = (le-div_iff_mul-le (pow_pos k)).1 (subst (λ y. y ≤ x) (pow-add 2 k 10 ∙ omega arith) l)

pub past-range : (num den : ℕ) → 0 < den → 2 ^ 100 * den ≤ num * 10 ^ 25 → 31744 ≤ nearest_half num den
past-range num den D h =
    let n = num * 2 ^ 24 in
    let whole = n / den in
    let k = size whole - 11 in
    let long : 40 < size whole = size-gt whole 40 (large-steps num den D h) in
    let digits : size whole ≡ k + 11 = omega arith in
    let top : 2 ^ (k + 10) ≤ whole = size_reaches whole (k + 10) (omega (arith, digits)) in
    let many : 1024 ≤ n / (den * 2 ^ k) = subst (λ x. 1024 ≤ x) (div-div-eq-div-mul n den (2 ^ k)) (few-left whole k (size whole) (omega (arith, digits, long)) digits top) in
    let up : n / (den * 2 ^ k) ≤ closest n (den * 2 ^ k) = nearest-ge _ _ in
    omega (arith, digits, long, many, up)

-- 11 digits and the zeros before them are the 64 bits of a word
pub digits-past : (n : ℕ) → n < 2 ^ 41 → (64 - count_leading_zeros 64 n - 11 ≡ size n - 11) × (size n - 11 ≤ 30)
digits-past n h =
    let most : size n ≤ 41 = size-le n 41 h in (
      elim (eq-zero-or-pos n) [
        | inl z ↦ (
            let none : size n ≤ 0 = size-le n 0 (omega (arith, z, pow-zero 2)) in
            let zeros : count_leading_zeros 64 n ≡ 64 = ap (count_leading_zeros 64) z ∙ leading_of_zero 64 in
            omega (arith, none, zeros)
            )
        | inr p ↦ (
            let top = leading_top 64 n p (omega (arith, h)) in
            let least : top.0 < size n = size-gt n top.0 top.2 in
            let up : size n ≤ suc top.0 = size-le n (suc top.0) top.3 in
            omega (arith, top.1, least, up)
            )
      ],
      omega (arith, most),
    )
