-- Digits read as numbers.
use Rattle.std.proofs.Common.{◌≡◌, ℕ, zero, suc, ◌+◌, ◌-◌, ◌*◌, ◌/◌, ◌%◌, ◌^◌, ◌<◌, ◌≤◌, inl, inr, Bool, true, false, cond, nat_lt, List, [], ◌∷◌, ◌++◌, length, get_or, drop, replicate, ◌≢◌, Option, Some, None, ℤ, pos, negsuc, neg_ℤ, int_lt, unsigned_abs, refl, sym, ap, ◌∙◌, subst, arith}
use Rattle.std.proofs.lemmas.List.{length_push, get_or_append_left, get_or_push}
use Rattle.std.proofs.lemmas.Bool.Decides.{nat_tests, leb_tells}
use Rattle.std.specs.Fmt.{sign_text}
use Rattle.json_write.specs.Reading.{IsParsed}
use Rattle.json_write.specs.Digits.{digit, number_text, last_digits, at_least}
use Rattle.json_write.proofs.DigitFacts.{ten_more, last_digits_next, last_digits_none, length-last_digits, number_text_one, number_by_steps, number_first, last_digits_pad}
use native.Mathlib.Nat.{pow-le-pow_right}
use Rattle.json_write.proofs.TimeFacts.{at_least_long, at_least_short, length_long}

-- one more digit at the end
pub push_digit : (i v c : ℕ) (ds : List ℕ) → v < 10 ^ i → ds ≡ last_digits i v → 48 ≤ c → c ≤ 57 → (v * 10 + (c - 48) < 10 ^ suc i) × (ds ++ c ∷ [] ≡ last_digits (suc i) (v * 10 + (c - 48)))
push_digit i v c ds small e low high =
    let p = ten_more i in
    let front : (v * 10 + (c - 48)) / 10 ≡ v = omega arith in
    let last : digit ((v * 10 + (c - 48)) % 10) ≡ c = omega arith in
    let next : last_digits (suc i) (v * 10 + (c - 48)) ≡ last_digits i v ++ c ∷ [] = last_digits_next i (v * 10 + (c - 48)) ∙ ap (λ q. last_digits i q ++ digit ((v * 10 + (c - 48)) % 10) ∷ []) front ∙ ap (λ d. last_digits i v ++ d ∷ []) last in
    (omega arith, ap (λ xs. xs ++ c ∷ []) e ∙ sym next)

-- each of the last digits is a digit
pub digit_at : (k n i : ℕ) → i < k → (48 ≤ get_or (last_digits k n) i 0) × (get_or (last_digits k n) i 0 ≤ 57)
digit_at zero n i h = absurd (omega arith)
digit_at (suc k) n i h =
    let next = last_digits_next k n in
    let size = length-last_digits k (n / 10) in
    elim (leb_tells k i) [
      | inl g ↦
          let same : i ≡ k = omega arith in
          let here : get_or (last_digits (suc k) n) i 0 ≡ digit (n % 10) = ap (λ xs. get_or xs i 0) next ∙ get_or_push (last_digits k (n / 10)) (digit (n % 10)) 0 i (size ∙ sym same) in
          (omega arith, omega arith)
      | inr g ↦
          let before : get_or (last_digits (suc k) n) i 0 ≡ get_or (last_digits k (n / 10)) i 0 = ap (λ xs. get_or xs i 0) next ∙ get_or_append_left (last_digits k (n / 10)) (digit (n % 10) ∷ []) 0 i (omega arith) in
          omega (arith, digit_at k (n / 10) i g.1)
    ]

-- ---- numbers without leading zeros

-- a number is the last digits that its text has
pub number_is_digits : (n : ℕ) → (n < 10 ^ length (number_text n)) × (number_text n ≡ last_digits (length (number_text n)) n)
number_is_digits n =
    number_by_steps (λ m ds. (m < 10 ^ length ds) × (ds ≡ last_digits (length ds) m))
    (λ m h. let one = push_digit 0 0 (digit m) [] (omega arith) (sym (last_digits_none 0 0 refl)) (omega arith) (omega arith) in
    let same : 0 * 10 + (digit m - 48) ≡ m = omega arith in
    (omega arith, one.1 ∙ ap (λ i. last_digits 1 i) same))
    (λ m ds h p.
    let more = push_digit (length ds) (m / 10) (digit (m % 10)) ds p.0 p.1 (omega arith) (omega arith) in
    let same : m / 10 * 10 + (digit (m % 10) - 48) ≡ m = omega arith in
    let size : length (ds ++ digit (m % 10) ∷ []) ≡ suc (length ds) = length_push ds (digit (m % 10)) ∙ omega arith in
    rw size (rw same at more)) n

-- no number but 0 begins with 0
pub number_zero : (n : ℕ) → get_or (number_text n) 0 0 ≡ 48 → n ≡ 0
number_zero n e = (number_by_steps (λ m ds. (0 < length ds) × (get_or ds 0 0 ≡ 48 → m ≡ 0)) (λ m h. (omega arith, λ z. omega arith))
    (λ m ds h p. (omega (arith, length_push ds (digit (m % 10))), λ z. absurd (omega (arith, p.1 (sym (get_or_append_left ds (digit (m % 10) ∷ []) 0 0 p.0) ∙ z))))) n).1 e

pub number_length : (k n : ℕ) → 0 < k → n < 10 ^ k → length (number_text n) ≤ k
number_length k n some h = (last_digits_pad k n some h).0

first_pad : (k : ℕ) (xs : List ℕ) → 1 ≤ k → get_or (replicate k 48 ++ xs) 0 0 ≡ 48
first_pad zero xs h = absurd (omega arith)
first_pad (suc k) xs h = refl

-- digits that do not begin with 0, unless they are 0 alone
pub number_from_digits : (ds : List ℕ) (n : ℕ) → 0 < length ds → n < 10 ^ length ds → ds ≡ last_digits (length ds) n → (get_or ds 0 0 ≡ 48 → length ds ≡ 1) → ds ≡ number_text n
number_from_digits ds n some h e first =
    let pad = last_digits_pad (length ds) n some h in
    let whole : ds ≡ replicate (length ds - length (number_text n)) 48 ++ number_text n = e ∙ pad.1 in
    let more = (number_first n).0 in
    elim (leb_tells 1 (length ds - length (number_text n))) [
      | inl g ↦
          let start : get_or ds 0 0 ≡ 48 = ap (λ xs. get_or xs 0 0) whole ∙ first_pad (length ds - length (number_text n)) (number_text n) g.1 in
          absurd (omega (arith, first start, pad.0))
      | inr g ↦
          let none : length ds - length (number_text n) ≡ 0 = omega (arith, g.1) in
          whole ∙ ap (λ i. replicate i 48 ++ number_text n) none
    ]

-- at least `k` digits have that many, and a number that needs more has more
pub length_least : (k n : ℕ) → k ≤ length (at_least k n)
length_least k n =
    elim (leb_tells (10 ^ k) n) [
      | inl g ↦ omega (arith, length_long k n g.1, ap length (at_least_long k n g.1))
      | inr g ↦ omega (arith, length-last_digits k n, ap length (at_least_short k n g.1))
    ]

-- ---- what a number's text is not

pub number_not_empty : (ds : List ℕ) (n : ℕ) → length ds ≡ 0 → ¬ (ds ≡ number_text n)
number_not_empty ds n h e = omega (arith, ap length e, (number_first n).0)

pub number_not_long : (ds : List ℕ) (n : ℕ) → 38 < length ds → n < 10 ^ 38 → ¬ (ds ≡ number_text n)
number_not_long ds n h small e = omega (arith, ap length e, number_length 38 n (omega arith) small)

pub zero_alone : (ds : List ℕ) (n : ℕ) → get_or ds 0 0 ≡ 48 → ds ≡ number_text n → length ds ≡ 1
zero_alone ds n z e =
    let none : n ≡ 0 = number_zero n (sym (ap (λ xs. get_or xs 0 0) e) ∙ z) in
    ap length (e ∙ ap number_text none ∙ number_text_one 0 (omega arith))

pub zero_text : (ds : List ℕ) → get_or ds 0 0 ≡ 48 → length ds ≡ 1 → ds ≡ number_text 0
zero_text [] z l = absurd (omega arith)
zero_text (x ∷ []) z l = ap (λ d. d ∷ []) z ∙ sym (number_text_one 0 (omega arith))
zero_text (x ∷ y ∷ ds) z l = absurd (omega arith)

-- digits that are the last digits of no number are not the text of one
pub number_no_digits : (ds : List ℕ) → ((n : ℕ) → n < 10 ^ length ds → ¬ (ds ≡ last_digits (length ds) n)) → (n : ℕ) → ¬ (ds ≡ number_text n)
number_no_digits ds none n e =
    let own = number_is_digits n in
    let size = ap length e in
    none n (rw size own.0) (e ∙ own.1 ∙ ap (λ i. last_digits i n) (sym size))

-- ---- at least six digits

pub six_short : (ds : List ℕ) (n : ℕ) → length ds < 6 → ¬ (ds ≡ at_least 6 n)
six_short ds n h e = omega (arith, ap length e, length_least 6 n)

pub six_exact : (ds : List ℕ) (n : ℕ) → length ds ≡ 6 → n < 10 ^ length ds → ds ≡ last_digits (length ds) n → (n < 10 ^ 6) × (ds ≡ at_least 6 n)
six_exact ds n l h e =
    let small : n < 10 ^ 6 = rw l at h in
    (small, e ∙ ap (λ i. last_digits i n) l ∙ sym (at_least_short 6 n small))

pub six_exact_none : (ds : List ℕ) → length ds ≡ 6 → ((n : ℕ) → n < 10 ^ length ds → ¬ (ds ≡ last_digits (length ds) n)) → (n : ℕ) → ¬ (ds ≡ at_least 6 n)
six_exact_none ds l none n e =
    elim (leb_tells (10 ^ 6) n) [
      | inl g ↦ omega (arith, ap length (e ∙ at_least_long 6 n g.1), length_long 6 n g.1)
      | inr g ↦ none n (rw l g.1) (e ∙ at_least_short 6 n g.1 ∙ ap (λ i. last_digits i n) (sym l))
    ]

pub six_long : (ds : List ℕ) (n : ℕ) → 6 < length ds → ds ≡ number_text n → ds ≡ at_least 6 n
six_long ds n h e =
    elim (leb_tells (10 ^ 6) n) [
      | inl g ↦ e ∙ sym (at_least_long 6 n g.1)
      | inr g ↦ absurd (omega (arith, ap length e, number_length 6 n (omega arith) g.1))
    ]

pub six_long_back : (ds : List ℕ) (n : ℕ) → 6 < length ds → ds ≡ at_least 6 n → ds ≡ number_text n
six_long_back ds n h e =
    elim (leb_tells (10 ^ 6) n) [
      | inl g ↦ e ∙ at_least_long 6 n g.1
      | inr g ↦ absurd (omega (arith, ap length (e ∙ at_least_short 6 n g.1), length-last_digits 6 n))
    ]

-- ---- powers of ten

pub ten_order : (i k : ℕ) → i ≤ k → 10 ^ i ≤ 10 ^ k
ten_order i k h = pow-le-pow_right (omega arith) h

-- ---- results of one reader as those of another

pub number_from_fixed : (ds : List ℕ) → 0 < length ds → length ds ≤ 38 → get_or ds 0 0 ≢ 48 → (r : Option ℕ) → IsParsed (last_digits (length ds)) (λ n. n < 10 ^ length ds) ds r → IsParsed number_text (λ n. n < 10 ^ 38) ds r
number_from_fixed ds some long first None h = λ n fits e. number_no_digits ds h n e
number_from_fixed ds some long first (Some n) h = (omega (arith, h.0, ten_order (length ds) 38 long), number_from_digits ds n some h.0 h.1 (λ z. absurd (first z)))

pub six_from_fixed : (ds : List ℕ) → length ds ≡ 6 → (r : Option ℕ) → IsParsed (last_digits (length ds)) (λ n. n < 10 ^ length ds) ds r → IsParsed (at_least 6) (λ n. n < 10 ^ 38) ds r
six_from_fixed ds l None h = λ n fits e. six_exact_none ds l h n e
six_from_fixed ds l (Some n) h = let p = six_exact ds n l h.0 h.1 in (omega (arith, p.0), p.1)

pub six_from_number : (ds : List ℕ) → 6 < length ds → (r : Option ℕ) → IsParsed number_text (λ n. n < 10 ^ 38) ds r → IsParsed (at_least 6) (λ n. n < 10 ^ 38) ds r
six_from_number ds l None h = λ n fits e. h n fits (six_long_back ds n l e)
six_from_number ds l (Some n) h = (h.0, six_long ds n l h.1)

-- ---- signs, before text that begins with a digit

abbrev pub signed_text : (ℕ → List ℕ) → ℤ → List ℕ
signed_text T z = sign_text (int_lt z (pos 0)) ++ T (unsigned_abs z)

abbrev pub BeginWithDigits : (ℕ → List ℕ) → Type 0
BeginWithDigits T = (n : ℕ) → 48 ≤ get_or (T n) 0 0

sign_minus : (b : Bool) (ys rest : List ℕ) → 48 ≤ get_or ys 0 0 → 45 ∷ rest ≡ sign_text b ++ ys → (rest ≡ ys) × (b ≡ true)
sign_minus true ys rest h e = (ap (λ xs. drop 1 xs) e, refl)
sign_minus false ys rest h e = absurd (omega (arith, ap (λ xs. get_or xs 0 0) e))

sign_plain : (b : Bool) (ys xs : List ℕ) → get_or xs 0 0 ≢ 45 → xs ≡ sign_text b ++ ys → xs ≡ ys
sign_plain true ys xs h e = absurd (h (ap (λ zs. get_or zs 0 0) e))
sign_plain false ys xs h e = e

below_zero : (n : ℕ) → nat_lt n 0 ≡ true → n < 0
below_zero n e = grind (arith, nat_tests)

not_negative : (n : ℕ) → nat_lt n 0 ≡ false
not_negative n = grind (arith, nat_tests)

none_signed : (b : Bool) (ys : List ℕ) → 48 ≤ get_or ys 0 0 → ¬ ([] ≡ sign_text b ++ ys)
none_signed true ys h e = omega (arith, ap length e)
none_signed false ys h e = omega (arith, ap (λ xs. get_or xs 0 0) e)

pub signed_not_empty : (T : ℕ → List ℕ) → BeginWithDigits T → (text : List ℕ) (z : ℤ) → length text ≡ 0 → ¬ (text ≡ signed_text T z)
signed_not_empty T first [] z l e = none_signed (int_lt z (pos 0)) (T (unsigned_abs z)) (first (unsigned_abs z)) e
signed_not_empty T first (x ∷ xs) z l e = absurd (omega arith)

pub minus_none : (T : ℕ → List ℕ) → BeginWithDigits T → (text rest : List ℕ) → text ≡ 45 ∷ rest → ((n : ℕ) → n < 10 ^ 38 → ¬ (rest ≡ T n)) → (z : ℤ) → unsigned_abs z < 10 ^ 38 → ¬ (text ≡ signed_text T z)
minus_none T first text rest t none z fits e = none (unsigned_abs z) fits (sign_minus (int_lt z (pos 0)) (T (unsigned_abs z)) rest (first (unsigned_abs z)) (sym t ∙ e)).0

not_minus_zero : (z : ℤ) → unsigned_abs z ≡ 0 → ¬ (int_lt z (pos 0) ≡ true)
not_minus_zero (pos n) z s = omega (arith, below_zero n s)
not_minus_zero (negsuc n) z s = omega arith

pub minus_zero : (T : ℕ → List ℕ) → BeginWithDigits T → ((m n : ℕ) → T m ≡ T n → m ≡ n) → (text rest : List ℕ) (n : ℕ) → text ≡ 45 ∷ rest → n ≡ 0 → rest ≡ T n → (z : ℤ) → ¬ (text ≡ signed_text T z)
minus_zero T first one text rest n t none r z e =
    let p = sign_minus (int_lt z (pos 0)) (T (unsigned_abs z)) rest (first (unsigned_abs z)) (sym t ∙ e) in
    not_minus_zero z (one (unsigned_abs z) n (sym p.0 ∙ r) ∙ none) p.1

pub minus_some : (T : ℕ → List ℕ) (text rest : List ℕ) (n : ℕ) → text ≡ 45 ∷ rest → n ≢ 0 → n < 10 ^ 38 → rest ≡ T n → (unsigned_abs (neg_ℤ (pos n)) < 10 ^ 38) × (text ≡ signed_text T (neg_ℤ (pos n)))
minus_some T text rest zero t some fits r = absurd (some refl)
minus_some T text rest (suc n) t some fits r = (fits, t ∙ ap (λ xs. 45 ∷ xs) r)

pub plain_none : (T : ℕ → List ℕ) (text : List ℕ) → get_or text 0 0 ≢ 45 → ((n : ℕ) → n < 10 ^ 38 → ¬ (text ≡ T n)) → (z : ℤ) → unsigned_abs z < 10 ^ 38 → ¬ (text ≡ signed_text T z)
plain_none T text h none z fits e = none (unsigned_abs z) fits (sign_plain (int_lt z (pos 0)) (T (unsigned_abs z)) text h e)

pub plain_some : (T : ℕ → List ℕ) (text : List ℕ) (n : ℕ) → n < 10 ^ 38 → text ≡ T n → (unsigned_abs (pos n) < 10 ^ 38) × (text ≡ signed_text T (pos n))
plain_some T text n fits e = (fits, e ∙ ap (λ b. sign_text b ++ T n) (sym (not_negative n)))

-- ---- years

abbrev pub year_of_parts : Bool → Bool → ℕ → List ℕ
year_of_parts b c n = cond b (45 ∷ at_least 6 n) (cond c (last_digits 4 n) (43 ∷ at_least 6 n))

four_first : (n : ℕ) → (48 ≤ get_or (last_digits 4 n) 0 0) × (get_or (last_digits 4 n) 0 0 ≤ 57)
four_first n = digit_at 4 n 0 (omega arith)

pub year_minus : (b c : Bool) (n : ℕ) (rest : List ℕ) → 45 ∷ rest ≡ year_of_parts b c n → (rest ≡ at_least 6 n) × (b ≡ true)
year_minus true c n rest e = (ap (λ xs. drop 1 xs) e, refl)
year_minus false true n rest e = absurd (omega (arith, ap (λ xs. get_or xs 0 0) e, four_first n))
year_minus false false n rest e = absurd (omega (arith, ap (λ xs. get_or xs 0 0) e))

pub year_plus : (b c : Bool) (n : ℕ) (rest : List ℕ) → 43 ∷ rest ≡ year_of_parts b c n → (rest ≡ at_least 6 n) × (b ≡ false) × (c ≡ false)
year_plus true c n rest e = absurd (omega (arith, ap (λ xs. get_or xs 0 0) e))
year_plus false true n rest e = absurd (omega (arith, ap (λ xs. get_or xs 0 0) e, four_first n))
year_plus false false n rest e = (ap (λ xs. drop 1 xs) e, refl, refl)

pub year_plain : (b c : Bool) (n : ℕ) (xs : List ℕ) → get_or xs 0 0 ≢ 45 → get_or xs 0 0 ≢ 43 → xs ≡ year_of_parts b c n → (xs ≡ last_digits 4 n) × (b ≡ false) × (c ≡ true)
year_plain true c n xs h k e = absurd (h (ap (λ zs. get_or zs 0 0) e))
year_plain false true n xs h k e = (e, refl, refl)
year_plain false false n xs h k e = absurd (k (ap (λ zs. get_or zs 0 0) e))

pub year_not_empty : (b c : Bool) (n : ℕ) (xs : List ℕ) → length xs ≡ 0 → ¬ (xs ≡ year_of_parts b c n)
year_not_empty true c n xs l e = omega (arith, ap length e)
year_not_empty false true n xs l e = omega (arith, ap length e, length-last_digits 4 n)
year_not_empty false false n xs l e = omega (arith, ap length e)

-- ---- results of `?`, and slices of digits

pub none_parsed : {A : Type 0} (text : A → List ℕ) (Fits : A → Type 0) (bs : List ℕ) (r : Option A) → r ≡ None → ((a : A) → Fits a → ¬ (bs ≡ text a)) → IsParsed text Fits bs r
none_parsed text Fits bs r e h = subst (λ o. IsParsed text Fits bs o) (sym e) h

pub digits_none : (xs : List ℕ) (k n : ℕ) → ((m : ℕ) → m < 10 ^ length xs → ¬ (xs ≡ last_digits (length xs) m)) → n < 10 ^ k → ¬ (xs ≡ last_digits k n)
digits_none xs k n none small e =
    let size = ap length e ∙ length-last_digits k n in
    none n (rw size small) (e ∙ ap (λ i. last_digits i n) (sym size))

pub digits_some : (xs : List ℕ) (k n : ℕ) → length xs ≡ k → n < 10 ^ length xs → xs ≡ last_digits (length xs) n → (n < 10 ^ k) × (xs ≡ last_digits k n)
digits_some xs k n size small e = (rw size at small, e ∙ ap (λ i. last_digits i n) size)

pub minus_not_zero : (z : ℤ) → unsigned_abs z ≡ 0 → ¬ (int_lt z (pos 0) ≡ true)
minus_not_zero z e s = not_minus_zero z e s

pub not_below : (m n : ℕ) → nat_lt m n ≡ false → n ≤ m
not_below m n e = grind (arith, nat_tests)
