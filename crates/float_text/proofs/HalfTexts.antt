-- Halves of one text are the same, but for NaN.
use Rattle.std.proofs.Common.{◌≡◌, ◌≢◌, ◌⊎◌, ℕ, zero, suc, ◌+◌, ◌-◌, ◌*◌, ◌/◌, ◌%◌, ◌^◌, ◌<◌, ◌≤◌, Bool, false, nat_lt, not, inl, inr, refl, sym, subst, ap, ◌∙◌, arith}
use Rattle.std.proofs.lemmas.Bool.{cases_eq, eq-eqb, ne_eqb}
use Rattle.std.proofs.lemmas.Option.{same_Some}
use native.Mathlib.Nat.{eq_of_mul-eq-mul_right}
use lib.Count.{count_leading_zeros}
use lib.Ieee.{nan, binary32, to_bits}
use Rattle.fast_float.specs.Parse.{parse_float}
use Rattle.float_text.specs.Half.{half_of_fields, half_text, half_value, single_of_half}
use Rattle.float_text.proofs.Halves.{half_reads_back, infinity_bits, normal_bits, sign_bit, sign_of, signed, subnormal_bits, zero_bits, zeros_before}
use Rattle.float_text.proofs.Powers.{power-pos}

-- the bits of a single without its sign, from the fields of the half that it equals
abbrev IsZero : ℕ → ℕ → ℕ → Type 0
IsZero x t n = (x ≡ 0) × (t ≡ 0) × (n ≡ 0)

abbrev IsSubnormal : ℕ → ℕ → ℕ → Type 0
IsSubnormal x t n = (x ≡ 0) × (s : ℕ) × (14 ≤ s) × (s < 25) × (8388608 ≤ t * 2 ^ s) × (t * 2 ^ s < 16777216) × (n ≡ (125 - s) * 8388608 + t * 2 ^ s)

abbrev IsNormal : ℕ → ℕ → ℕ → Type 0
IsNormal x t n = (0 < x) × (x < 31) × (n ≡ (x + 112) * 8388608 + t * 8192)

abbrev IsInfinite : ℕ → ℕ → ℕ → Type 0
IsInfinite x t n = (x ≡ 31) × (t ≡ 0) × (n ≡ 2139095040)

abbrev IsSingle : ℕ → ℕ → ℕ → Type 0
IsSingle x t n = IsZero x t n ⊎ (IsSubnormal x t n ⊎ (IsNormal x t n ⊎ IsInfinite x t n))

-- a number below the normal ones keeps the place of its leading digit, and so all digits
same-digits : (s s' t t' : ℕ) → s < 25 → s' < 25 → 8388608 ≤ t * 2 ^ s → t * 2 ^ s < 16777216 → 8388608 ≤ t' * 2 ^ s' → t' * 2 ^ s' < 16777216
    → (125 - s) * 8388608 + t * 2 ^ s ≡ (125 - s') * 8388608 + t' * 2 ^ s' → t ≡ t'
same-digits s s' t t' a b c d c' d' e =
    let place : s' ≡ s = omega (arith, a, b, c, d, c', d', e) in
    eq_of_mul-eq-mul_right (2 ^ s) (power-pos 2 s (omega arith)) t t' (omega (arith, e, place, ap (λ x. t' * 2 ^ x) place))

-- the fields are told by the bits
same-fields : (x t x' t' n : ℕ) → t < 1024 → t' < 1024 → IsSingle x t n → IsSingle x' t' n → x * 1024 + t ≡ x' * 1024 + t'
same-fields x t x' t' n a b (inl h) (inl k) = omega arith
same-fields x t x' t' n a b (inl h) (inr (inl k)) = absurd (omega arith)
same-fields x t x' t' n a b (inl h) (inr (inr k)) = absurd (omega arith)
same-fields x t x' t' n a b (inr (inl h)) (inl k) = absurd (omega arith)
same-fields x t x' t' n a b (inr (inl (z, s, c, d, e, g, i))) (inr (inl (z', s', c', d', e', g', i'))) =
    let same = same-digits s s' t t' d d' e g e' g' (sym i ∙ i') in
    omega (arith, z, z', same)
same-fields x t x' t' n a b (inr (inl h)) (inr (inr k)) = absurd (omega arith)
same-fields x t x' t' n a b (inr (inr h)) (inl k) = absurd (omega arith)
same-fields x t x' t' n a b (inr (inr h)) (inr (inl k)) = absurd (omega arith)
same-fields x t x' t' n a b (inr (inr h)) (inr (inr k)) = omega arith

below-sign : (x t n : ℕ) → t < 1024 → IsSingle x t n → n < 2147483648
below-sign x t n a (inl h) = omega arith
below-sign x t n a (inr (inl h)) = omega arith
below-sign x t n a (inr (inr h)) = omega arith

-- ---- the bits of the single

abbrev Single : Bool → ℕ → ℕ → Type 0
Single negative x t = (n : ℕ) × (sign_of negative + n ≡ to_bits binary32 (half_of_fields negative x t)) × IsSingle x t n

finite-single : (negative : Bool) (x t n : ℕ) → x < 31 → n ≡ to_bits binary32 (half_of_fields false x t) → IsSingle x t n → Single negative x t
finite-single negative x t n h e is = (n, ap (λ v. sign_of negative + v) e ∙ signed negative x t h, is)

low-single : (negative : Bool) (t : ℕ) → t < 1024 → Single negative 0 t
low-single negative t h = elim (cases_eq t 0) [
  | inl z ↦ finite-single negative 0 t 0 (omega arith) (zero_bits 0 t refl z) (inl (refl, z, refl))
  | inr p ↦
      let place = zeros_before t (omega (arith, p)) h in
      let s = count_leading_zeros 32 t - 8 in
      let (d, below, total, least, from, upto) = place.1 in
      finite-single negative 0 t ((125 - s) * 8388608 + t * 2 ^ s) (omega arith) (subnormal_bits t s _ (omega (arith, p)) place.1 refl) (inr (inl (refl, s, least, omega (arith, total), from, upto, refl)))
]

no-nan : (negative : Bool) (x t : ℕ) → x ≡ 31 → half_of_fields negative x t ≢ nan → t ≡ 0
no-nan negative x t e h = elim (cases_eq t 0) [
  | inl z ↦ z
  | inr p ↦ absurd (h (rw (eq-eqb _ _ e, ne_eqb _ _ p) refl))
]

single : (negative : Bool) (x t : ℕ) → x ≤ 31 → t < 1024 → half_of_fields negative x t ≢ nan → Single negative x t
single negative zero t a b h = low-single negative t b
single negative (suc y) t a b h = elim (cases_eq (suc y) 31) [
  | inl e ↦ let z = no-nan negative (suc y) t e h in (2139095040, infinity_bits negative (suc y) t e z, inr (inr (inr (e, z, refl))))
  | inr p ↦ finite-single negative (suc y) t ((suc y + 112) * 8388608 + t * 8192) (omega (arith, a, p)) (normal_bits (suc y) t _ (omega arith) (omega (arith, a, p)) b refl) (inr (inr (inl (omega (arith, a, p)))))
]

-- the single's bits tell the half's
same-half : (a b : ℕ) → a < 65536 → b < 65536 → half_value a ≢ nan → half_value b ≢ nan → single_of_half a ≡ single_of_half b → a ≡ b
same-half a b h k p q e =
    let m = single (not (nat_lt a 32768)) (a % 32768 / 1024) (a % 1024) (omega arith) (omega arith) p in
    let n = single (not (nat_lt b 32768)) (b % 32768 / 1024) (b % 1024) (omega arith) (omega arith) q in
    let both : a / 32768 * 2147483648 % 4294967296 + m.0 ≡ b / 32768 * 2147483648 % 4294967296 + n.0 = ap (λ x. x + m.0) (sign_bit a h) ∙ m.1 ∙ e ∙ sym n.1 ∙ ap (λ x. x + n.0) (sym (sign_bit b k)) in
    finish m.0 n.0 (below-sign _ _ m.0 (omega arith) m.2) (below-sign _ _ n.0 (omega arith) n.2) both m.2 n.2
  where
    finish : (m n : ℕ) → m < 2147483648 → n < 2147483648 → a / 32768 * 2147483648 % 4294967296 + m ≡ b / 32768 * 2147483648 % 4294967296 + n
        → IsSingle (a % 32768 / 1024) (a % 1024) m → IsSingle (b % 32768 / 1024) (b % 1024) n → a ≡ b
    finish m n l r both x y =
        let sign : a / 32768 ≡ b / 32768 = signs (a / 32768) (b / 32768) m n (omega (arith, h)) (omega (arith, k)) l r both in
        let size : m ≡ n = omega (arith, both, ap (λ z. z * 2147483648 % 4294967296) sign) in
        let fields = same-fields (a % 32768 / 1024) (a % 1024) (b % 32768 / 1024) (b % 1024) n (omega arith) (omega arith) (subst (IsSingle (a % 32768 / 1024) (a % 1024)) size x) y in
        join a b sign fields
      where
        signs : (i j m n : ℕ) → i < 2 → j < 2 → m < 2147483648 → n < 2147483648 → i * 2147483648 % 4294967296 + m ≡ j * 2147483648 % 4294967296 + n → i ≡ j
        signs i j m n a b l r e = omega arith

        join : (a b : ℕ) → a / 32768 ≡ b / 32768 → a % 32768 / 1024 * 1024 + a % 1024 ≡ b % 32768 / 1024 * 1024 + b % 1024 → a ≡ b
        join a b e g = omega arith

pub half-text-determines : (a b : ℕ) → a < 65536 → b < 65536 → half_value a ≢ nan → half_text a ≡ half_text b → a ≡ b
half-text-determines a b h k n e =
    let same : half_value a ≡ half_value b = same_Some _ _ (sym (half_reads_back a h) ∙ ap (parse_float binary32) e ∙ half_reads_back b k) in
    same-half a b h k n (λ z. n (same ∙ z)) (ap (to_bits binary32) same)
