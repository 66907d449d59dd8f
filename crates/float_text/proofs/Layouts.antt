-- The layouts of a text, each as the parts of a numeral of the same value.
use Rattle.std.proofs.Common.{◌≡◌, ℕ, zero, suc, ◌+◌, ◌-◌, ◌*◌, ◌^◌, ◌<◌, ◌≤◌, Bool, true, false, cond, if◌then◌else◌, List, [], ◌∷◌, ◌++◌, length, take, drop, inl, inr, refl, sym, subst, ap, ap₂, ◌∙◌, arith, true≢false, append-nil, append_assoc, length-append, length-take, length-drop, take-append-drop, pow-add}
use Rattle.std.specs.Prelude.{nat_lt}
use Rattle.std.proofs.lemmas.Bool.{cases_lt, lt-ltb, le-ltb, ltb-false}
use Rattle.std.proofs.lemmas.Fmt.{decimal_is_IsNumeral_wide}
use Rattle.std.proofs.lemmas.List.{length-replicate}
use Rattle.std.specs.Fmt.{decimal, sign_text}
use Rattle.std.specs.Str.Parse.{digits_value, AllDigits}
use Rattle.fast_float.specs.Text.{Parts, digits_of, exponent_text, text_of, IsWellFormed}
use Rattle.fast_float.specs.Text as numerals
use Rattle.fast_float.proofs.DigitsLemmas.{digits_value-append}
use Rattle.fast_float.proofs.Rows.{AllDigits-take, AllDigits-drop, AllDigits-append}
use lib.Ieee.{Format}
use Rattle.float_text.specs.Text.{leading_zeros, whole_digits, with_point, zeros}

digits-zeros : (n : ℕ) → AllDigits 10 (zeros n)
digits-zeros zero = tt
digits-zeros (suc n) = (omega arith, digits-zeros n)

value-zeros : (n : ℕ) → digits_value 10 (zeros n) ≡ 0
value-zeros zero = refl
value-zeros (suc n) = value-zeros n

abbrev parts : List ℕ → Bool → List ℕ → Bool → List ℕ → Parts
parts whole point fraction negative exponent =
    record { whole = whole; point = point; fraction = fraction; exponent_negative = negative; exponent = exponent; len = length (whole ++ (cond point (46 ∷ fraction) [] ++ exponent_text negative exponent)) }

-- the text is a numeral worth q * 10 ^ up / 10 ^ down, where up - down is the power
pub record IsNumeralOf (text : List ℕ) (q p : ℕ) : Type 0 where
  pub numeral : Parts
  pub text_is : text ≡ text_of numeral
  pub well_formed : IsWellFormed numeral
  pub some : 0 < length numeral.whole
  pub up : ℕ
  pub digits : digits_of numeral * 10 ^ numerals.tens_up numeral ≡ q * 10 ^ up
  pub place : up + (342 - p) ≡ p - 342 + numerals.tens_down numeral

module _ (ds : List ℕ) (q : ℕ) (are : AllDigits 10 ds) (some : 0 < length ds) (value : digits_value 10 ds ≡ q) where
  -- a point and no exponent
  pointed : (whole fraction : List ℕ) (up p : ℕ) → AllDigits 10 whole → AllDigits 10 fraction → 0 < length whole → digits_value 10 (whole ++ fraction) ≡ q * 10 ^ up → up + (342 - p) ≡ p - 342 + length fraction
      → IsNumeralOf (whole ++ 46 ∷ fraction) q p
  pointed whole fraction up p w f more same place = record {
    numeral = parts whole true fraction false [];
    text_is = ap (λ l. whole ++ 46 ∷ l) (sym (append-nil fraction));
    well_formed = record { whole_digits = w; fraction_digits = f; exponent_digits = tt; no_point = λ e. absurd (true≢false e); no_exponent = λ _. refl; len_is = refl };
    some = more;
    up = up;
    digits = omega (arith, same);
    place = omega (arith, place);
  }

  -- zeros before the digits
  pub low-zeros : (p : ℕ) → length ds + p < 343 → IsNumeralOf (48 ∷ 46 ∷ (zeros (342 - (length ds + p)) ++ ds)) q p
  low-zeros p h =
      let n = 342 - (length ds + p) in
      let many = length-append (zeros n) ds in
      let worth : digits_value 10 (zeros n ++ ds) ≡ q = digits_value-append (zeros n) ds ∙ omega (arith, ap (λ x. x * 10 ^ length ds) (value-zeros n), value) in
      pointed (48 ∷ []) (zeros n ++ ds) 0 p (omega arith, tt) (AllDigits-append (zeros n) ds (digits-zeros n) are) (omega arith) (omega (arith, worth)) (omega (arith, many, length-replicate {A = ℕ} n 48))

  -- a point among the digits
  pub middle : (p : ℕ) → 343 ≤ length ds + p → p < 342 → IsNumeralOf (take (length ds + p - 342) ds ++ 46 ∷ drop (length ds + p - 342) ds) q p
  middle p from below =
      let n = length ds + p - 342 in
      let whole : digits_value 10 (take n ds ++ drop n ds) ≡ q = ap (digits_value 10) (take-append-drop n ds) ∙ value in
      pointed (take n ds) (drop n ds) 0 p (AllDigits-take n ds are) (AllDigits-drop n ds are) (omega (arith, length-take n ds)) (omega (arith, whole)) (omega (arith, length-drop n ds))

  -- zeros after the digits
  pub high-zeros : (p : ℕ) → 342 ≤ p → IsNumeralOf (ds ++ (zeros (length ds + p - 342 - length ds) ++ 46 ∷ 48 ∷ [])) q p
  high-zeros p from =
      let n = length ds + p - 342 - length ds in
      let many : n ≡ p - 342 = omega arith in
      let long = length-replicate {A = ℕ} n 48 in
      let first : digits_value 10 (ds ++ zeros n) ≡ q * 10 ^ n = digits_value-append ds (zeros n) ∙ omega (arith, ap (λ x. x * 10 ^ length (zeros n)) value, ap (λ x. q * 10 ^ x) long, value-zeros n) in
      let power : 10 ^ (n + 1) ≡ 10 ^ n * 10 = pow-add 10 n 1 in
      let worth : digits_value 10 ((ds ++ zeros n) ++ 48 ∷ []) ≡ q * 10 ^ (n + 1) = digits_value-append (ds ++ zeros n) (48 ∷ []) ∙ omega (arith, first, ap (λ x. q * x) power) in
      let text = pointed (ds ++ zeros n) (48 ∷ []) (n + 1) p (AllDigits-append ds (zeros n) are (digits-zeros n)) (omega arith, tt) (omega (arith, length-append ds (zeros n), some)) worth (omega (arith, many)) in
      subst (λ (x : List ℕ). IsNumeralOf x q p) (append_assoc ds (zeros n) (46 ∷ 48 ∷ [])) text

  -- an exponent
  exponent-is : (negative : Bool) (xs : List ℕ) → 0 < length xs → exponent_text negative xs ≡ 101 ∷ (sign_text negative ++ xs)
  exponent-is negative [] h = absurd (omega arith)
  exponent-is negative (x ∷ xs) h = refl

  not-empty : (xs : List ℕ) (b : Bool) → 0 < length xs → xs ≡ [] → b ≡ false
  not-empty [] b h e = absurd (omega arith)
  not-empty (x ∷ xs) b h e = absurd (omega (arith, ap length e))

  no-rest : nat_lt 1 (length ds) ≡ false → drop 1 ds ≡ []
  no-rest e = empty (drop 1 ds) (omega (arith, length-drop 1 ds, ltb-false _ _ e))
    where
      empty : (xs : List ℕ) → length xs ≡ 0 → xs ≡ []
      empty [] h = refl
      empty (x ∷ xs) h = absurd (omega arith)

  scientific : (negative : Bool) (e up p : ℕ) → e < 10 ^ 64 → (if negative then 0 else e) ≡ up → up + (342 - p) ≡ p - 342 + (length (drop 1 ds) + (if negative then e else 0))
      → IsNumeralOf (take 1 ds ++ ((if nat_lt 1 (length ds) then 46 ∷ drop 1 ds else []) ++ 101 ∷ (sign_text negative ++ decimal e))) q p
  scientific negative e up p few is place =
      let numeral = decimal_is_IsNumeral_wide e few in
      let point = nat_lt 1 (length ds) in
      let whole : digits_value 10 (take 1 ds ++ drop 1 ds) ≡ q = ap (digits_value 10) (take-append-drop 1 ds) ∙ value in
      let tens : digits_value 10 (decimal e) ≡ e = numeral.1 in
      record {
        numeral = parts (take 1 ds) point (drop 1 ds) negative (decimal e);
        text_is = ap (λ x. take 1 ds ++ (cond point (46 ∷ drop 1 ds) [] ++ x)) (sym (exponent-is negative (decimal e) numeral.0.0));
        well_formed = record {
          whole_digits = AllDigits-take 1 ds are;
          fraction_digits = AllDigits-drop 1 ds are;
          exponent_digits = numeral.0.1;
          no_point = no-rest;
          no_exponent = not-empty (decimal e) negative numeral.0.0;
          len_is = refl;
        };
        some = omega (arith, length-take 1 ds, some);
        up = up;
        digits = ap (λ x. digits_value 10 (take 1 ds ++ drop 1 ds) * 10 ^ (if negative then 0 else x)) tens ∙ ap₂ (λ x y. x * 10 ^ y) whole is;
        place = place ∙ ap (λ x. p - 342 + (length (drop 1 ds) + (if negative then x else 0))) (sym tens);
      }

  abbrev scientific-text : List ℕ → List ℕ
  scientific-text e = take 1 ds ++ ((if nat_lt 1 (length ds) then 46 ∷ drop 1 ds else []) ++ 101 ∷ e)

  below-one : (p : ℕ) → length ds + p < 343 → IsNumeralOf (scientific-text (45 ∷ decimal (343 - (length ds + p)))) q p
  below-one p l = scientific true (343 - (length ds + p)) 0 p (omega arith) refl (omega (arith, length-drop 1 ds, some))

  one-up : (p : ℕ) → 343 ≤ length ds + p → length ds + p < 10 ^ 9 → IsNumeralOf (scientific-text (decimal (length ds + p - 343))) q p
  one-up p g few = scientific false (length ds + p - 343) (length ds + p - 343) p (omega arith) refl (omega (arith, length-drop 1 ds, some))

  -- each layout
  pub laid-out : (f : Format) (p : ℕ) → length ds + p < 10 ^ 9 → IsNumeralOf (with_point f ds (length ds + p)) q p
  laid-out f p few = elim (cases_lt (length ds + p) 343) [
    | inl l ↦ rw (lt-ltb _ _ l) (elim (cases_lt (length ds + p + leading_zeros f) 342) [
      | inl a ↦ rw (lt-ltb _ _ a) (below-one p l)
      | inr b ↦ rw (le-ltb _ _ b) (low-zeros p l)
    ])
    | inr g ↦ rw (le-ltb _ _ g) (elim (cases_lt (length ds + p) (342 + length ds)) [
      | inl a ↦ rw (lt-ltb _ _ a) (middle p g (omega arith))
      | inr b ↦ rw (le-ltb _ _ b) (elim (cases_lt (342 + whole_digits f) (length ds + p)) [
        | inl x ↦ rw (lt-ltb _ _ x) (one-up p g few)
        | inr y ↦ rw (le-ltb _ _ y) (high-zeros p (omega arith))
      ])
    ])
  ]
