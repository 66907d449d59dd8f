use Rattle.std.proofs.Common.{◌≡◌, ◌<◌, ◌*◌, ◌+◌, ◌-◌, ◌≤◌, ◌%◌, ℕ, zero, suc, refl, sym, ap, ◌∙◌, false, arith}
use Rattle.std.proofs.Math.Facts.{Fits-of_lt}
use Rattle.std.specs.Float.Ieee.{binary32, to_bits}
use Rattle.float_text.specs.Half.{half_of_fields}
use Rattle.float_text.proofs.half.finite_single.Goals as goal
use Rattle.float_text.proofs.Halves.{normal_bits, subnormal_bits, zero_bits, zeros_before}
use lib.Count.{count_leading_zeros}

-- src/half.rt:13:9
pub returns-then-exponent-gt0-clause-value : goal.returns-then-exponent-gt0-clause-value
returns-then-exponent-gt0-clause-value c =
    let r = c.requires in
    normal_bits c.args.exponent c.args.digits _ c.if-exponent-gt0.true r.0 r.1 (go c.args.exponent c.args.digits r.0 r.1)
  where
    go : (x t : ℕ) → x < 31 → t < 1024 → (x + 112) * 8388608 % 4294967296 + t * 8192 % 4294967296 ≡ (x + 112) * 8388608 + t * 8192
    go x t a b = omega (arith, a, b)

-- src/half.rt:16:9
pub returns-then-digits-eq0-clause-value : goal.returns-then-digits-eq0-clause-value
returns-then-digits-eq0-clause-value c = zero_bits c.args.exponent c.args.digits (omega (arith, c.if-exponent-gt0.false)) c.if-digits-eq0.true

some : (n : ℕ) → (n ≡ 0 → ⊥) → 0 < n
some zero h = absurd (h refl)
some (suc n) h = omega arith

-- the sum of the shifted numbers, which are below 2 ^ 32
in_range : (n s : ℕ) → 14 ≤ s → n < 16777216 → (125 - s) * 8388608 % 4294967296 + n % 4294967296 ≡ (125 - s) * 8388608 + n
in_range n s a b = omega (arith, a, b)

-- src/half.rt:19:17
pub overflow_sub-shift : goal.overflow_sub-shift
overflow_sub-shift c = (zeros_before c.args.digits (some c.args.digits c.if-digits-eq0.false) c.requires.1).0

-- src/half.rt:20:5
pub overflow_add-result-2 : goal.overflow_add-result-2
overflow_add-result-2 c =
    let z = (zeros_before c.args.digits (some c.args.digits c.if-digits-eq0.false) c.requires.1).1 in
    Fits-of_lt (below _ _ z.3 z.5)
  where
    below : (s n : ℕ) → 14 ≤ s → n < 16777216 → (125 - s) * 8388608 % 4294967296 + n % 4294967296 < 4294967296
    below s n a b = omega (arith, a, b)

-- src/half.rt:7:1
pub returns-clause-value : goal.returns-clause-value
returns-clause-value c =
    let S = some c.args.digits c.if-digits-eq0.false in
    let z = (zeros_before c.args.digits S c.requires.1).1 in
    let e : c.args.exponent ≡ 0 = omega (arith, c.if-exponent-gt0.false) in
    subnormal_bits c.args.digits (count_leading_zeros 32 c.args.digits - 8) _ S z (in_range _ _ z.3 z.5)
    ∙ ap (λ x. to_bits binary32 (half_of_fields false x c.args.digits)) (sym e)

pub returns-clause-is_finite : goal.returns-clause-is_finite
returns-clause-is_finite c =
    let z = (zeros_before c.args.digits (some c.args.digits c.if-digits-eq0.false) c.requires.1).1 in
    below _ _ z.3 z.5
  where
    below : (s n : ℕ) → 14 ≤ s → n < 16777216 → (125 - s) * 8388608 % 4294967296 + n % 4294967296 < 2139095040
    below s n a b = omega (arith, a, b)
