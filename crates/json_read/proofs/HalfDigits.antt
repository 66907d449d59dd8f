-- The digits of a number before and after the 25th place after its point.
use Rattle.std.specs.Prelude.{IsFalse, IsTrue, min, if◌then◌else◌}
use Rattle.std.proofs.Common.{◌≡◌, ℕ, ◌+◌, ◌-◌, ◌*◌, ◌/◌, ◌%◌, ◌^◌, ◌<◌, ◌≤◌, ◌↔◌, Bool, true, false, List, [], ◌∷◌, length, take, drop, inl, inr, refl, sym, ap, subst, ◌∙◌, arith, mul-pos, pow-add, mul-le-mul_right, mul-le-mul_left, length-drop}
use Rattle.std.proofs.lemmas.Bool.{cases_lt, true≢false}
use Rattle.std.proofs.lemmas.List.{take_all}
use Rattle.std.specs.Str.Parse.{AllDigits, digits_value}
use native.Mathlib.Nat.{eq-zero-or-pos, mul-div_cancel, mul-mod_left, div-mul-le_self, mul_assoc, pow-le-pow_right, pow-zero, zero-mul}
use lib.Arith.{digits_div, digits_mod}
use Rattle.fast_float.proofs.ExactLemmas.{ten_to_pos}
use Rattle.fast_float.proofs.Rows.{cut_last}
use Rattle.json_read.specs.ScaledNumbers.{IsScaled}

-- a number of these digits times 10^a, in units of 10^b: the digits before the cut with zeros after them, and the digits after it
pub record IsCut (ds : List ℕ) (a b : ℕ) : Type 0 where
  pub whole : digits_value 10 ds * 10 ^ a / 10 ^ b ≡ digits_value 10 (take (length ds - (b - a)) ds) * 10 ^ (a - b)
  pub none : digits_value 10 ds * 10 ^ a % 10 ^ b ≡ 0 → digits_value 10 (drop (length ds - (b - a)) ds) ≡ 0
  pub exact : digits_value 10 (drop (length ds - (b - a)) ds) ≡ 0 → digits_value 10 ds * 10 ^ a % 10 ^ b ≡ 0

no-digits : (ds : List ℕ) (n : ℕ) → length ds ≤ n → digits_value 10 (drop n ds) ≡ 0
no-digits ds n h = none (drop n ds) (omega (arith, length-drop n ds))
  where
    none : (xs : List ℕ) → length xs ≡ 0 → digits_value 10 xs ≡ 0
    none [] e = refl
    none (x ∷ xs) e = absurd (omega (arith, e))

-- no digit is cut off
zeros-cut : (ds : List ℕ) (a b : ℕ) → b ≤ a → IsCut ds a b
zeros-cut ds a b h =
    let all : length ds - (b - a) ≡ length ds = omega (arith, h) in
    let powers : 10 ^ a ≡ 10 ^ (a - b) * 10 ^ b = (let e : a ≡ a - b + b = omega (arith, h) in ap (λ x. 10 ^ x) e ∙ pow-add 10 (a - b) b) in
    let value : digits_value 10 ds * 10 ^ a ≡ digits_value 10 ds * 10 ^ (a - b) * 10 ^ b = ap (λ x. digits_value 10 ds * x) powers ∙ sym (mul_assoc _ (10 ^ (a - b)) (10 ^ b)) in
    record {
      whole = ap (λ x. x / 10 ^ b) value ∙ mul-div_cancel _ (ten_to_pos b) ∙ ap (λ xs. digits_value 10 xs * 10 ^ (a - b)) (sym (take_all (length ds - (b - a)) ds (omega (arith, all))));
      none = λ _. no-digits ds (length ds - (b - a)) (omega (arith, all));
      exact = λ _. ap (λ x. x % 10 ^ b) value ∙ mul-mod_left _ (10 ^ b);
    }

-- the last digits are cut off
digits-cut : (ds : List ℕ) (a j : ℕ) → AllDigits 10 ds → IsCut ds a (a + j)
digits-cut ds a j h =
    let last : a + j - a ≡ j = omega arith in
    let up : a - (a + j) ≡ 0 = omega arith in
    let kept = length ds - (a + j - a) in
    let d = digits_value 10 (take kept ds) in
    let s = digits_value 10 (drop kept ds) in
    let parts : (digits_value 10 ds ≡ d * 10 ^ j + s) × (s < 10 ^ j) =
    subst (λ k. (digits_value 10 ds ≡ digits_value 10 (take (length ds - k) ds) * 10 ^ j + digits_value 10 (drop (length ds - k) ds)) × (digits_value 10 (drop (length ds - k) ds) < 10 ^ j)) (sym last) (cut_last ds j h) in
    let some = ten_to_pos a in
    let powers : 10 ^ (a + j) ≡ 10 ^ j * 10 ^ a = (let e : a + j ≡ j + a = omega arith in ap (λ x. 10 ^ x) e ∙ pow-add 10 j a) in
    let value : digits_value 10 ds * 10 ^ a ≡ d * (10 ^ j * 10 ^ a) + s * 10 ^ a = (let e : (d * 10 ^ j + s) * 10 ^ a ≡ d * (10 ^ j * 10 ^ a) + s * 10 ^ a = grind arith in ap (λ x. x * 10 ^ a) parts.0 ∙ e) in
    let small : s * 10 ^ a < 10 ^ j * 10 ^ a = (let next : s + 1 ≤ 10 ^ j = omega (arith, parts.1) in omega (arith, mul-le-mul_right (10 ^ a) next, some)) in
    let rest : digits_value 10 ds * 10 ^ a % 10 ^ (a + j) ≡ s * 10 ^ a = ap (λ x. x % 10 ^ (a + j)) value ∙ ap (λ x. (d * (10 ^ j * 10 ^ a) + s * 10 ^ a) % x) powers ∙ digits_mod d small in
    record {
      whole = ap (λ x. x / 10 ^ (a + j)) value ∙ ap (λ x. (d * (10 ^ j * 10 ^ a) + s * 10 ^ a) / x) powers ∙ digits_div d small ∙ (let one : d * 1 ≡ d = omega arith in sym (ap (λ x. d * 10 ^ x) up ∙ ap (λ x. d * x) (pow-zero 10) ∙ one));
      none = λ z. (elim (eq-zero-or-pos s) [ inl e ↦ e | inr p ↦ absurd (omega (arith, rest, z, mul-pos p some)) ]);
      exact = λ z. rest ∙ ap (λ x. x * 10 ^ a) z ∙ zero-mul (10 ^ a);
    }

pub cut-is : (ds : List ℕ) (a b : ℕ) → AllDigits 10 ds → IsCut ds a b
cut-is ds a b h = elim (cases_lt a b) [
  | inl l ↦ (let e : a + (b - a) ≡ b = omega (arith, l) in subst (IsCut ds a) e (digits-cut ds a (b - a) h))
  | inr g ↦ zeros-cut ds a b g
]

-- ---- many zeros

-- 31 zeros after a digit are past the limit
pub few-zeros : (d z : ℕ) → d * 10 ^ min z 31 < 2 ^ 100 → d * 10 ^ min z 31 ≡ d * 10 ^ z
few-zeros d z h = elim (cases_lt 31 z) [
  | inr l ↦ (let e : min z 31 ≡ z = omega (arith, l) in ap (λ x. d * 10 ^ x) e)
  | inl g ↦ (
      let e : min z 31 ≡ 31 = omega (arith, g) in
      let none : d ≡ 0 = omega (arith, ap (λ x. d * 10 ^ x) e, h) in
      ap (λ x. x * 10 ^ min z 31) none ∙ zero-mul (10 ^ min z 31) ∙ sym (ap (λ x. x * 10 ^ z) none ∙ zero-mul (10 ^ z))
      )
]

pub zeros-le : (d z : ℕ) → d * 10 ^ min z 31 ≤ d * 10 ^ z
zeros-le d z = mul-le-mul_left d (pow-le-pow_right (omega arith) (omega arith))

-- ---- the number of a numeral: D * 10^up / 10^down

module _ (ds : List ℕ) (up down : ℕ) (h : AllDigits 10 ds) where
  abbrev kept : ℕ
  kept = length ds - (down - (up + 25))

  value-is : digits_value 10 ds * 10 ^ up * 10 ^ 25 ≡ digits_value 10 ds * 10 ^ (up + 25)
  value-is = mul_assoc _ (10 ^ up) (10 ^ 25) ∙ ap (λ x. digits_value 10 ds * x) (sym (pow-add 10 up 25))

  pub scaled-is : (units : ℕ) (more : Bool) → units ≡ digits_value 10 (take kept ds) * 10 ^ min (up + 25 - down) 31 → units < 2 ^ 100
      → (IsTrue more ↔ 0 < digits_value 10 (drop kept ds)) → IsScaled (digits_value 10 ds * 10 ^ up) (10 ^ down) units more
  scaled-is units more e small m =
      let cut = cut-is ds (up + 25) down h in
      let zeros = few-zeros (digits_value 10 (take kept ds)) (up + 25 - down) (omega (arith, e, small)) in
      record {
        whole = e ∙ zeros ∙ sym (ap (λ x. x / 10 ^ down) value-is ∙ cut.whole);
        rest = (
          λ f. ap (λ x. x % 10 ^ down) value-is ∙ cut.exact (none more f m),
          λ z. some more m (cut.none (sym (ap (λ x. x % 10 ^ down) value-is) ∙ z)),
        );
      }
    where
      none : (more : Bool) → IsFalse more → (IsTrue more ↔ 0 < digits_value 10 (drop kept ds)) → digits_value 10 (drop kept ds) ≡ 0
      none more f m = elim (eq-zero-or-pos (digits_value 10 (drop kept ds))) [ inl z ↦ z | inr p ↦ absurd (true≢false (sym (m.1 p) ∙ f)) ]

      some : (more : Bool) → (IsTrue more ↔ 0 < digits_value 10 (drop kept ds)) → digits_value 10 (drop kept ds) ≡ 0 → IsFalse more
      some true m z = absurd (omega (arith, m.0 refl, z))
      some false m z = refl

  pub past-limit : 2 ^ 100 ≤ digits_value 10 (take kept ds) * 10 ^ min (up + 25 - down) 31 → 2 ^ 100 * 10 ^ down ≤ digits_value 10 ds * 10 ^ up * 10 ^ 25
  past-limit l =
      let cut = cut-is ds (up + 25) down h in
      let less : digits_value 10 ds * 10 ^ (up + 25) / 10 ^ down * 10 ^ down ≤ digits_value 10 ds * 10 ^ (up + 25) = div-mul-le_self _ _ in
      let large : 2 ^ 100 ≤ digits_value 10 ds * 10 ^ (up + 25) / 10 ^ down = omega (arith, l, zeros-le (digits_value 10 (take kept ds)) (up + 25 - down), cut.whole) in
      omega (arith, mul-le-mul_right (10 ^ down) large, less, value-is)

  pub past-front : 2 ^ 100 ≤ digits_value 10 (take kept ds) → 2 ^ 100 * 10 ^ down ≤ digits_value 10 ds * 10 ^ up * 10 ^ 25
  past-front l = past-limit (omega (arith, l, mul-le-mul_left (digits_value 10 (take kept ds)) (ten_to_pos (min (up + 25 - down) 31))))

-- ---- the place of the cut

abbrev pub most : ℕ
most = 2 ^ 64 - 1

abbrev pub cut_place : Bool → ℕ → ℕ → ℕ
cut_place negative whole power = if negative then whole + 25 - min power most else whole + 25 + min power most

-- an exponent that counts less than it is moves no digit over the cut
pub place-is : (negative : Bool) (whole fraction power : ℕ) → whole < 2 ^ 63 → fraction < 2 ^ 63
    → (min (cut_place negative whole power) (whole + fraction) ≡ whole + fraction - (fraction + (if negative then power else 0) - ((if negative then 0 else power) + 25)))
    × (min (cut_place negative whole power - (whole + fraction)) 31 ≡ min ((if negative then 0 else power) + 25 - (fraction + (if negative then power else 0))) 31)
place-is true whole fraction power w f = (omega (arith, w, f), omega (arith, w, f))
place-is false whole fraction power w f = (omega (arith, w, f), omega (arith, w, f))
