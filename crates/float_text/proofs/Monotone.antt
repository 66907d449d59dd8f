-- A larger fraction has larger nearest bits.
use Rattle.std.proofs.Common.{◌≡◌, ℕ, ◌+◌, ◌-◌, ◌*◌, ◌/◌, ◌%◌, ◌^◌, ◌<◌, ◌≤◌, false, inl, inr, sym, subst, ap, ◌∙◌, arith, mul-le-mul_right, mul-pos, le_trans, pow-add}
use Rattle.std.proofs.lemmas.Bool.{cases_lt}
use native.Mathlib.Nat.{div-div-eq-div-mul, le-div_iff_mul-le, lt_of_le_of_lt, le_of_eq}
use Prim.Native.Nat.{compare}
use lib.Ieee.{Format, prec, low, hid, size}
use lib.Ieee.Digits.{size-le, size-lt, size_reaches}
use lib.Ieee.Fits.{kept-lt, nearest-le, round_is}
use lib.Ieee.Nearest.{closest, closest_mono, div_mono, nearest-ge}
use lib.Ieee.Order.{drop, kept}
use Rattle.fast_float.specs.Rounding.{IsNearestBits, scaled_bits}
use Rattle.fast_float.proofs.Patterns.{of_bits-scaled_bits, shape}
use Rattle.float_text.proofs.Powers.{power-pos}

-- the kept digits are at most one more than p bits hold, and at least half of that where digits are dropped
pub kept-most : (p n den : ℕ) → kept p n den ≤ 2 ^ p
kept-most p n den =
    let u = den * 2 ^ drop p n den in
    le_trans (nearest-le (n / u) (compare (n % u * 2) u)) (subst (λ (x : ℕ). x < 2 ^ p) (div-div-eq-div-mul n den (2 ^ drop p n den)) (kept-lt p (n / den)))

pub kept-least : (p n den : ℕ) → 0 < p → 0 < drop p n den → 2 ^ (p - 1) ≤ kept p n den
kept-least p n den P K =
    let k = drop p n den in
    let u = den * 2 ^ k in
    let w = n / den in
    let a : 2 ^ (p - 1) * 2 ^ k ≤ w = le_trans (le_of_eq (sym (pow-add 2 (p - 1) k))) (size_reaches w (p - 1 + k) (omega arith)) in
    le_trans (subst (λ (x : ℕ). 2 ^ (p - 1) ≤ x) (div-div-eq-div-mul n den (2 ^ k)) ((le-div_iff_mul-le (power-pos 2 k (omega arith))).1 a)) (nearest-ge (n / u) (compare (n % u * 2) u))

abbrev pub dropped : Format → ℕ → ℕ → ℕ
dropped f num den = drop (prec f) (num * 2 ^ low f) den

abbrev pub digits : Format → ℕ → ℕ → ℕ
digits f num den = kept (prec f) (num * 2 ^ low f) den

-- the bits of the float nearest to num / den
abbrev pub bits_near : Format → ℕ → ℕ → ℕ
bits_near f num den = scaled_bits f (digits f num den) (dropped f num den)

pub digits-most : (f : Format) (num den : ℕ) → digits f num den ≤ 2 * hid f
digits-most f num den = omega (arith, kept-most (prec f) (num * 2 ^ low f) den, (shape f).twice)

pub digits-least : (f : Format) (num den : ℕ) → 0 < dropped f num den → hid f ≤ digits f num den
digits-least f num den K = let s = shape f in kept-least (prec f) (num * 2 ^ low f) den (omega arith) K

pub is-near : (f : Format) (num den : ℕ) → IsNearestBits f num den (bits_near f num den)
is-near f num den =
    (of_bits-scaled_bits f (digits f num den) (dropped f num den) (kept-most (prec f) (num * 2 ^ low f) den) (digits-least f num den) ∙ sym (round_is f false num den), omega arith)

size-mono : (a b : ℕ) → a ≤ b → size a ≤ size b
size-mono a b h = size-le a (size b) (lt_of_le_of_lt h (size-lt b))

pub bits-mono : (f : Format) (a b c d : ℕ) → 0 < b → 0 < d → a * d ≤ c * b → bits_near f a b ≤ bits_near f c d
bits-mono f a b c d B D h =
    let L = 2 ^ low f in
    let x : a * L * d ≤ c * L * b = omega (arith, mul-le-mul_right L h) in
    let fewer : dropped f a b ≤ dropped f c d = less _ _ (prec f) (size-mono _ _ (div_mono (a * L) b (c * L) d B D x)) in
    elim (cases_lt (dropped f a b) (dropped f c d)) [
      | inl l ↦
          let next : dropped f a b + 1 ≤ dropped f c d = omega arith in
          omega (arith, digits-most f a b, digits-least f c d (omega (arith, l)), mul-le-mul_right (hid f) next)
      | inr g ↦
          let same : dropped f a b ≡ dropped f c d = omega (arith, fewer, g) in
          let power = 2 ^ dropped f a b in
          let P = power-pos 2 (dropped f a b) (omega arith) in
          let order : closest (a * L) (b * power) ≤ closest (c * L) (d * power) = closest_mono (a * L) (b * power) (c * L) (d * power) (mul-pos B P) (mul-pos D P) (omega (arith, mul-le-mul_right power x)) in
          let kept : digits f a b ≤ digits f c d = subst (λ (k : ℕ). digits f a b ≤ closest (c * L) (d * 2 ^ k)) same order in
          omega (arith, kept, ap (λ k. k * hid f) same)
    ]
  where
    less : (x y p : ℕ) → x ≤ y → x - p ≤ y - p
    less x y p h = omega arith
