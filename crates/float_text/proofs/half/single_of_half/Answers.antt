use Rattle.std.proofs.Common.{◌≡◌, ◌*◌, ◌+◌, ◌≤◌, ◌%◌, ◌/◌, ℕ, not, nat_lt, false, sym, ap, ◌∙◌, arith}
use Rattle.std.specs.Float.Ieee.{binary32, to_bits}
use Rattle.float_text.specs.Half.{half_of_fields}
use Rattle.float_text.proofs.half.single_of_half.Goals as goal
use Rattle.float_text.proofs.Halves.{infinity_bits, nan_bits, sign_bit, signed}

-- src/half.rt:27:1
pub returns-then-exponent-lt31 : goal.returns-then-exponent-lt31
returns-then-exponent-lt31 c =
    let x = c.from-exponent.ensures in
    let t = c.from-digits.ensures in
    let s = c.from-sign.ensures in
    let r = c.finite_single.ensures.value in
    (λ i. s i * 2147483648 % 4294967296 + (r ∙ λ j. to_bits binary32 (half_of_fields false (x j) (t j))) i)
    ∙ ap (λ a. a + to_bits binary32 (half_of_fields false (c.args.bits % 32768 / 1024) (c.args.bits % 1024))) (sign_bit c.args.bits c.ranges.bits.fits)
    ∙ signed (not (nat_lt c.args.bits 32768)) (c.args.bits % 32768 / 1024) (c.args.bits % 1024) (omega (arith, c.if-exponent-lt31.true, x))

highest : (x bits : ℕ) → x ≡ bits % 32768 / 1024 → 31 ≤ x → bits % 32768 / 1024 ≡ 31
highest x bits e h = omega (arith, e, h)

pub returns-then-digits-eq0 : goal.returns-then-digits-eq0
returns-then-digits-eq0 c =
    ap (λ a. a * 2147483648 % 4294967296 + 2139095040) c.from-sign.ensures
    ∙ ap (λ a. a + 2139095040) (sign_bit c.args.bits c.ranges.bits.fits)
    ∙ infinity_bits (not (nat_lt c.args.bits 32768)) _ _ (highest _ c.args.bits c.from-exponent.ensures c.if-exponent-lt31.false) (sym c.from-digits.ensures ∙ c.if-digits-eq0.true)

pub returns-else-digits-eq0 : goal.returns-else-digits-eq0
returns-else-digits-eq0 c =
    nan_bits (not (nat_lt c.args.bits 32768)) _ _ (highest _ c.args.bits c.from-exponent.ensures c.if-exponent-lt31.false) (λ e. c.if-digits-eq0.false (c.from-digits.ensures ∙ e))
