-- Numbers: the result of std's `parse` for digits.
use Rattle.std.specs.Char.{digit_value, is_ascii_digit}
use Rattle.std.specs.List.{prefix_len}
use Rattle.std.specs.Result.{OkIff}
use Rattle.std.specs.Str.{IsCharBoundary, IsUtf8}
use Rattle.std.specs.Str.Parse.{AllDigits, ParsesUnsigned, digits_value}
use Rattle.std.proofs.Common.{◌≡◌, ℕ, zero, suc, ◌+◌, ◌^◌, ◌≤◌, ◌<◌, Bool, true, false, cond, ltb, List, [], ◌∷◌, length, get_or, take, Result, Ok, Err, refl, sym, ap, subst, ◌∙◌, inl, inr, leb, arith}
use Rattle.std.proofs.lemmas.Bool.{and_parts, cases_lt, le-ltb, leb-true}
use Rattle.std.proofs.lemmas.Str.{digit_value_digit, IsCharBoundary-start, IsCharBoundary-after_ascii}
use Rattle.std.proofs.lemmas.Str.Parse.{numerals_by_value, tells_digits, IsNumeralModel, parse_digits}
use Rattle.type_text.specs.declared.error.SyntaxError.TheVariants.{Unexpected}
use Rattle.type_text.specs.TypeParser.{is_decimal_numeral, read_number}

abbrev okay : (E : Type 0) → ℕ → Result ℕ E
okay E v = Ok v

pub own : IsNumeralModel (AllDigits 10) (digits_value 10)
own = numerals_by_value (AllDigits 10) tells_digits

abbrev digit : ℕ → Bool
digit = is_ascii_digit

digit-below : (b : ℕ) → digit b ≡ true → (48 ≤ b) × (b ≤ 57)
digit-below b e = let p = and_parts (leb 48 b) (leb b 57) e in (leb-true 48 b p.0, leb-true b 57 p.1)

digit-value : (b : ℕ) → digit b ≡ true → digit_value b < 10
digit-value b e = let p = digit-below b e in let q = digit_value_digit b (p.0, p.1) in omega (arith, p.0, p.1, q)

-- the digits that a text begins with
pub digits-run : (bs : List ℕ) → AllDigits 10 (take (prefix_len digit bs) bs)
digits-run [] = tt
digits-run (b ∷ bs) =
    let P : Bool → Type 0 = λ v. digit b ≡ v → AllDigits 10 (take (cond v (1 + prefix_len digit bs) 0) (b ∷ bs)) in
    let k : 1 + prefix_len digit bs ≡ suc (prefix_len digit bs) = omega arith in
    (elim (digit b) as P [
      | true ↦ λ e. rw k (digit-value b e, digits-run bs)
      | false ↦ λ e. tt
    ]) refl

at-or-later : (b : ℕ) (bs : List ℕ) (m : ℕ) → digit b ≡ true → m < 1 + prefix_len digit bs → ((k : ℕ) → k < prefix_len digit bs → (k < length bs) × (get_or bs k 0 < 128)) → (m < length (b ∷ bs)) × (get_or (b ∷ bs) m 0 < 128)
at-or-later b bs zero e lt later = (omega arith, omega (arith, (digit-below b e).1))
at-or-later b bs (suc m) e lt later = let p = later m (omega arith) in (omega (arith, p.0), p.1)

digit-at : (bs : List ℕ) (m : ℕ) → m < prefix_len digit bs → (m < length bs) × (get_or bs m 0 < 128)
digit-at [] m h = absurd (omega arith)
digit-at (b ∷ bs) m h =
    let P : Bool → Type 0 = λ v. digit b ≡ v → m < cond v (1 + prefix_len digit bs) 0 → (m < length (b ∷ bs)) × (get_or (b ∷ bs) m 0 < 128) in
    (elim (digit b) as P [
      | true ↦ λ e lt. at-or-later b bs m e lt (digit-at bs)
      | false ↦ λ e lt. absurd (omega arith)
    ]) refl h

-- the end of the digits is a character boundary
pub digits-cut : (bs : List ℕ) (n : ℕ) → IsUtf8 bs → n ≡ prefix_len digit bs → IsCharBoundary bs n
digits-cut bs zero u e = IsCharBoundary-start bs u
digits-cut bs (suc m) u e =
    let p = digit-at bs m (omega arith) in
    let k : m + 1 ≡ suc m = omega arith in
    rw (← k) (IsCharBoundary-after_ascii bs m u p.0 p.1)

pub is-some : (ds : List ℕ) → is_decimal_numeral ds ≡ true → 0 < length ds
is-some [] e = absurd cc
is-some (d ∷ ds) e = omega arith

pub number-too-large : {E : Type 0} (bs ds : List ℕ) (r : Result ℕ E) (x : E) → ds ≡ take (prefix_len digit bs) bs → is_decimal_numeral ds ≡ true → ParsesUnsigned 64 10 ds r → r ≡ Err x → read_number bs ≡ Err (Unexpected (length bs))
number-too-large {E} bs ds r x d e p is =
    let run : AllDigits 10 ds = subst (AllDigits 10) (sym d) (digits-run bs) in
    let q : ¬ ((0 < length ds) × (digits_value 10 ds < 2 ^ 64)) = subst (λ (y : Result ℕ E). OkIff y ((0 < length ds) × (digits_value 10 ds < 2 ^ 64)) (digits_value 10 ds)) is (parse_digits own 64 ds r p run) in
    let f : is_decimal_numeral (take (prefix_len digit bs) bs) ≡ true = ap is_decimal_numeral (sym d) ∙ e in
    let ge : 2 ^ 64 ≤ digits_value 10 ds = elim (cases_lt (digits_value 10 ds) (2 ^ 64)) [ inl lt ↦ absurd (q (is-some ds e, lt)) | inr le ↦ le ] in
    let lt : ltb (digits_value 10 (take (prefix_len digit bs) bs)) (2 ^ 64) ≡ false = ap (λ y. ltb (digits_value 10 y) (2 ^ 64)) (sym d) ∙ le-ltb _ _ ge in
    rw (f, lt) refl
