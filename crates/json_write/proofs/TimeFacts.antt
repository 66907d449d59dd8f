-- Two values of one text are one value.
use Rattle.std.proofs.Common.{◌≡◌, ℕ, zero, suc, ◌+◌, ◌*◌, ◌/◌, ◌%◌, ◌^◌, ◌<◌, ◌≤◌, inl, inr, Bool, true, false, cond, nat_eq, nat_lt, List, [], ◌∷◌, ◌++◌, length, get_or, take, drop, refl, sym, ap, ◌∙◌, subst, arith, length-append, ℤ, pos, negsuc, int_lt, unsigned_abs, codes, not, ◌&&◌}
use Rattle.std.proofs.Math.Seq.{take-append_seam, drop-append_seam}
use Rattle.std.proofs.lemmas.List.{get_or_append_left, get_or_at}
use Rattle.std.proofs.lemmas.Bool.Decides.{nat_tests, leb_tells}
use Rattle.std.specs.Int.{int_div_euclid, int_rem_euclid}
use Rattle.std.specs.Fmt.{sign_text}
use Rattle.json_write.specs.Calendar.{IsDate, is_leap_year, days_in_month, date_of, day_number}
use Rattle.json_write.specs.Digits.{digit, number_text, signed_integer_text, last_digits, at_least, fraction_text}
use Rattle.json_write.specs.Decimals.{decimal_text}
use Rattle.json_write.specs.Times.{year_text, calendar_text, date_text, whole_seconds, subseconds, clock_text, is_time_of_day, time_text, zone_text, timestamp_text, millisecond_date_text, duration_text, months_text, days_text, days_ms_text, month_day_nano_text}
use Rattle.json_write.specs.declared.value_text.calendar.Date.{Date}
use Rattle.json_write.proofs.Days.{date_of-exists, day_number-date_of}
use Rattle.json_write.proofs.DigitFacts.{ten_some, length-last_digits, length-fraction, last_digits_none, last_digits_next, same_small, same_fraction, number_by_steps, number_first, number_injective, number_ends, same_parts}
use Rattle.json_write.proofs.DecimalFacts.{same_from_abs, decimal_injective}
use native.Mathlib.Nat.{div-eq_of_lt, div-add-mod'}
use Rattle.std.proofs.lemmas.Nat.{mod_below}

pub same_front : (xs us ys vs : List ℕ) → length xs ≡ length us → xs ++ ys ≡ us ++ vs → (xs ≡ us) × (ys ≡ vs)
same_front xs us ys vs n e = (
  sym (take-append_seam xs ys) ∙ ap (λ zs. take (length xs) zs) e ∙ ap (λ i. take i (us ++ vs)) n ∙ take-append_seam us vs,
  sym (drop-append_seam xs ys) ∙ ap (λ zs. drop (length xs) zs) e ∙ ap (λ i. drop i (us ++ vs)) n ∙ drop-append_seam us vs,
)

pub below_true : (m k : ℕ) → nat_lt m k ≡ true → m < k
below_true m k e = grind (arith, nat_tests)

pub zero_true : (n : ℕ) → nat_eq n 0 ≡ true → n ≡ 0
zero_true n e = grind (arith, nat_tests)

in_day_nat : (a : ℕ) → (not (nat_lt a 0) && nat_lt a 86_400) ≡ true → a < 86_400
in_day_nat a e = grind (arith, nat_tests)

-- ---- digits and signs precede the colon and all letters

-- digits and signs alone
abbrev pub NoLetters : List ℕ → Type 0
NoLetters xs = (i : ℕ) → get_or xs i 0 < 58

no_letters_cons : (x : ℕ) (xs : List ℕ) → x < 58 → NoLetters xs → NoLetters (x ∷ xs)
no_letters_cons x xs h k zero = h
no_letters_cons x xs h k (suc i) = k i

pub no_letters_append : (xs ys : List ℕ) → NoLetters xs → NoLetters ys → NoLetters (xs ++ ys)
no_letters_append [] ys h k i = k i
no_letters_append (x ∷ xs) ys h k zero = h 0
no_letters_append (x ∷ xs) ys h k (suc i) = no_letters_append xs ys (λ j. h (suc j)) k i

no_letters_nil : NoLetters []
no_letters_nil i = omega arith

no_letters_digit : (n : ℕ) → NoLetters (digit (n % 10) ∷ [])
no_letters_digit n = no_letters_cons (digit (n % 10)) [] (omega arith) no_letters_nil

pub no_letters_last : (k n : ℕ) → NoLetters (last_digits k n)
no_letters_last zero n = subst NoLetters (sym (last_digits_none 0 n refl)) no_letters_nil
no_letters_last (suc k) n = subst NoLetters (sym (last_digits_next k n)) (no_letters_append (last_digits k (n / 10)) (digit (n % 10) ∷ []) (no_letters_last k (n / 10)) (no_letters_digit n))

pub no_letters_number : (n : ℕ) → NoLetters (number_text n)
no_letters_number n =
    number_by_steps (λ m ds. NoLetters ds) (λ m h. no_letters_cons (digit m) [] (omega arith) no_letters_nil)
    (λ m ds h p. no_letters_append ds (digit (m % 10) ∷ []) p (no_letters_digit m)) n

no_letters_sign : (b : Bool) → NoLetters (sign_text b)
no_letters_sign true = no_letters_cons 45 [] (omega arith) no_letters_nil
no_letters_sign false = no_letters_nil

pub no_letters_integer : (z : ℤ) → NoLetters (signed_integer_text z)
no_letters_integer z = no_letters_append (sign_text (int_lt z (pos 0))) (number_text (unsigned_abs z)) (no_letters_sign (int_lt z (pos 0))) (no_letters_number (unsigned_abs z))

no_letters_least : (k n : ℕ) (b : Bool) → NoLetters (cond b (last_digits k n) (number_text n))
no_letters_least k n true = no_letters_last k n
no_letters_least k n false = no_letters_number n

no_letters_year : (n : ℕ) (a b : Bool) → NoLetters (cond a (45 ∷ at_least 6 n) (cond b (last_digits 4 n) (43 ∷ at_least 6 n)))
no_letters_year n true b = no_letters_cons 45 (at_least 6 n) (omega arith) (no_letters_least 6 n (nat_lt n (10 ^ 6)))
no_letters_year n false true = no_letters_last 4 n
no_letters_year n false false = no_letters_cons 43 (at_least 6 n) (omega arith) (no_letters_least 6 n (nat_lt n (10 ^ 6)))

pub no_letters_date : (n : ℤ) → NoLetters (date_text n)
no_letters_date n =
    let d = date_of n in
    no_letters_append (year_text d.year) (45 ∷ (last_digits 2 d.month ++ (45 ∷ last_digits 2 d.day))) (no_letters_year (unsigned_abs d.year) (int_lt d.year (pos 0)) (nat_lt (unsigned_abs d.year) 10_000))
    (no_letters_cons 45 (last_digits 2 d.month ++ (45 ∷ last_digits 2 d.day)) (omega arith) (no_letters_append (last_digits 2 d.month) (45 ∷ last_digits 2 d.day) (no_letters_last 2 d.month) (no_letters_cons 45 (last_digits 2 d.day) (omega arith) (no_letters_last 2 d.day))))

-- the first letter of equal text
pub same_until_letter : (xs us : List ℕ) (c : ℕ) (ys vs : List ℕ) → 58 ≤ c → NoLetters xs → NoLetters us → xs ++ c ∷ ys ≡ us ++ c ∷ vs → (xs ≡ us) × (ys ≡ vs)
same_until_letter [] [] c ys vs h p q e = (refl, ap (λ zs. drop 1 zs) e)
same_until_letter [] (u ∷ us) c ys vs h p q e = absurd (omega (arith, ap (λ zs. get_or zs 0 0) e, q 0))
same_until_letter (x ∷ xs) [] c ys vs h p q e = absurd (omega (arith, ap (λ zs. get_or zs 0 0) e, p 0))
same_until_letter (x ∷ xs) (u ∷ us) c ys vs h p q e =
    let rest = same_until_letter xs us c ys vs h (λ i. p (suc i)) (λ i. q (suc i)) (ap (λ zs. drop 1 zs) e) in
    let head : x ≡ u = ap (λ zs. get_or zs 0 0) e in
    (rw (head, rest.0), rest.1)

same_numbers : (a b : Bool) (m n : ℕ) → sign_text a ++ number_text m ≡ sign_text b ++ number_text n → (m ≡ n) × (a ≡ b)
same_numbers true true m n e = (number_injective n m (ap (λ xs. drop 1 xs) e), refl)
same_numbers true false m n e = absurd (omega (arith, ap (λ xs. get_or xs 0 0) e, (number_first n).1))
same_numbers false true m n e = absurd (omega (arith, ap (λ xs. get_or xs 0 0) e, (number_first m).1))
same_numbers false false m n e = (number_injective n m e, refl)

pub integer_injective : (y z : ℤ) → signed_integer_text y ≡ signed_integer_text z → y ≡ z
integer_injective y z e =
    let parts = same_numbers (int_lt y (pos 0)) (int_lt z (pos 0)) (unsigned_abs y) (unsigned_abs z) e in
    same_from_abs y z parts.0 parts.1

-- ---- dates

pub at_least_long : (k n : ℕ) → 10 ^ k ≤ n → at_least k n ≡ number_text n
at_least_long k n h = let t : nat_lt n (10 ^ k) ≡ false = grind (arith, nat_tests) in rw t

pub at_least_short : (k n : ℕ) → n < 10 ^ k → at_least k n ≡ last_digits k n
at_least_short k n h = let t : nat_lt n (10 ^ k) ≡ true = grind (arith, nat_tests) in rw t

pub length_long : (k n : ℕ) → 10 ^ k ≤ n → k < length (number_text n)
length_long k n h = omega (arith, ap length (number_ends k n h) ∙ length-append (number_text (n / 10 ^ k)) (last_digits k n), length-last_digits k n, (number_first (n / 10 ^ k)).0)

pub same_at_least : (k m n : ℕ) → at_least k m ≡ at_least k n → m ≡ n
same_at_least k m n e =
    elim (leb_tells (10 ^ k) m) [
      | inl g ↦ elim (leb_tells (10 ^ k) n) [
        | inl h ↦ number_injective n m (sym (at_least_long k m g.1) ∙ e ∙ at_least_long k n h.1)
        | inr h ↦ absurd (omega (arith, ap length (sym (at_least_long k m g.1) ∙ e ∙ at_least_short k n h.1), length_long k m g.1, length-last_digits k n))
      ]
      | inr g ↦ elim (leb_tells (10 ^ k) n) [
        | inl h ↦ absurd (omega (arith, ap length (sym (at_least_short k m g.1) ∙ e ∙ at_least_long k n h.1), length_long k n h.1, length-last_digits k m))
        | inr h ↦ same_small k m n g.1 h.1 (sym (at_least_short k m g.1) ∙ e ∙ at_least_short k n h.1)
      ]
    ]

-- a digit comes first, not a sign
first_digit : (k n : ℕ) → 0 < k → 48 ≤ get_or (last_digits k n) 0 0
first_digit zero n h = absurd (omega arith)
first_digit (suc zero) n h = rw (last_digits_next 0 n, last_digits_none 0 (n / 10) refl) (omega arith)
first_digit (suc (suc k)) n h =
    rw (last_digits_next (suc k) n, get_or_append_left (last_digits (suc k) (n / 10)) (digit (n % 10) ∷ []) 0 0 (omega (arith, length-last_digits (suc k) (n / 10)))) (first_digit (suc k) (n / 10) (omega arith))

same_years : (m n : ℕ) (a b c d : Bool) → nat_lt m 10_000 ≡ b → nat_lt n 10_000 ≡ d → cond a (45 ∷ at_least 6 m) (cond b (last_digits 4 m) (43 ∷ at_least 6 m)) ≡ cond c (45 ∷ at_least 6 n) (cond d (last_digits 4 n) (43 ∷ at_least 6 n)) → (m ≡ n) × (a ≡ c)
same_years m n true b true d f g e = (same_at_least 6 m n (ap (λ xs. drop 1 xs) e), refl)
same_years m n true b false true f g e = absurd (omega (arith, ap (λ xs. get_or xs 0 0) e, first_digit 4 n (omega arith)))
same_years m n true b false false f g e = absurd (omega (arith, ap (λ xs. get_or xs 0 0) e))
same_years m n false true true d f g e = absurd (omega (arith, ap (λ xs. get_or xs 0 0) e, first_digit 4 m (omega arith)))
same_years m n false false true d f g e = absurd (omega (arith, ap (λ xs. get_or xs 0 0) e))
same_years m n false true false true f g e =
    let h : m < 10 ^ 4 = below_true m 10_000 f in
    let i : n < 10 ^ 4 = below_true n 10_000 g in
    (same_small 4 m n h i e, refl)
same_years m n false true false false f g e = absurd (omega (arith, ap (λ xs. get_or xs 0 0) e, first_digit 4 m (omega arith)))
same_years m n false false false true f g e = absurd (omega (arith, ap (λ xs. get_or xs 0 0) e, first_digit 4 n (omega arith)))
same_years m n false false false false f g e = (same_at_least 6 m n (ap (λ xs. drop 1 xs) e), refl)

pub year_injective : (y z : ℤ) → year_text y ≡ year_text z → y ≡ z
year_injective y z e =
    let parts = same_years (unsigned_abs y) (unsigned_abs z) (int_lt y (pos 0)) (nat_lt (unsigned_abs y) 10_000) (int_lt z (pos 0)) (nat_lt (unsigned_abs z) 10_000) refl refl e in
    same_from_abs y z parts.0 parts.1

abbrev pub date_tail : Date → List ℕ
date_tail d = 45 ∷ (last_digits 2 d.month ++ (45 ∷ last_digits 2 d.day))

pub length-date_tail : (d : Date) → length (date_tail d) ≡ 6
length-date_tail d = omega (arith, length-append (last_digits 2 d.month) (45 ∷ last_digits 2 d.day), length-last_digits 2 d.month, length-last_digits 2 d.day)

pub one_date : (d e : Date) → d.year ≡ e.year → d.month ≡ e.month → d.day ≡ e.day → d ≡ e
one_date d e p q r =
    let f : ℤ → Date = λ y. record { year = y; month = d.month; day = d.day } in
    let g : ℕ → Date = λ m. record { year = e.year; month = m; day = d.day } in
    let h : ℕ → Date = λ i. record { year = e.year; month = e.month; day = i } in
    ap f p ∙ ap g q ∙ ap h r

pub small_day : (b : Bool) (m n : ℕ) → n ≤ days_in_month b m → n < 100
small_day b m n h = grind arith

pub calendar_injective : (d e : Date) → IsDate d → IsDate e → calendar_text d ≡ calendar_text e → d ≡ e
calendar_injective d e h k t =
    let years = same_parts (year_text d.year) (year_text e.year) (date_tail d) (date_tail e) (length-date_tail d ∙ sym (length-date_tail e)) t in
    let months = same_front (last_digits 2 d.month) (last_digits 2 e.month) (45 ∷ last_digits 2 d.day) (45 ∷ last_digits 2 e.day) (length-last_digits 2 d.month ∙ sym (length-last_digits 2 e.month)) (ap (λ xs. drop 1 xs) years.1) in
    one_date d e (year_injective d.year e.year years.0) (same_small 2 d.month e.month (omega (arith, h.month.1)) (omega (arith, k.month.1)) months.0)
    (same_small 2 d.day e.day (small_day (is_leap_year d.year) d.month d.day h.day.1) (small_day (is_leap_year e.year) e.month e.day k.day.1) (ap (λ xs. drop 1 xs) months.1))

pub date_injective : (m n : ℤ) → date_text m ≡ date_text n → m ≡ n
date_injective m n e = sym (day_number-date_of m) ∙ ap day_number (calendar_injective (date_of m) (date_of n) (date_of-exists m) (date_of-exists n) e) ∙ day_number-date_of n

-- ---- times

pub length-clock : (k s f : ℕ) → length (clock_text k s f) ≡ 8 + length (fraction_text k f)
length-clock k s f =
    let hours = last_digits 2 (s / 3600) in
    let minutes = last_digits 2 (s / 60 % 60) in
    let seconds = last_digits 2 (s % 60) in
    omega (arith, length-append hours (58 ∷ (minutes ++ (58 ∷ (seconds ++ fraction_text k f)))), length-append minutes (58 ∷ (seconds ++ fraction_text k f)), length-append seconds (fraction_text k f), length-last_digits 2 (s / 3600), length-last_digits 2 (s / 60 % 60), length-last_digits 2 (s % 60))

pub clock_injective : (k s f t g : ℕ) → s < 86_400 → t < 86_400 → f < 10 ^ k → g < 10 ^ k → clock_text k s f ≡ clock_text k t g → (s ≡ t) × (f ≡ g)
clock_injective k s f t g hs ht hf hg e =
    let sizes : (m n : ℕ) → length (last_digits 2 m) ≡ length (last_digits 2 n) = λ m n. length-last_digits 2 m ∙ sym (length-last_digits 2 n) in
    let hours = same_front (last_digits 2 (s / 3600)) (last_digits 2 (t / 3600)) (58 ∷ (last_digits 2 (s / 60 % 60) ++ (58 ∷ (last_digits 2 (s % 60) ++ fraction_text k f)))) (58 ∷ (last_digits 2 (t / 60 % 60) ++ (58 ∷ (last_digits 2 (t % 60) ++ fraction_text k g)))) (sizes (s / 3600) (t / 3600)) e in
    let minutes = same_front (last_digits 2 (s / 60 % 60)) (last_digits 2 (t / 60 % 60)) (58 ∷ (last_digits 2 (s % 60) ++ fraction_text k f)) (58 ∷ (last_digits 2 (t % 60) ++ fraction_text k g)) (sizes (s / 60 % 60) (t / 60 % 60)) (ap (λ xs. drop 1 xs) hours.1) in
    let seconds = same_front (last_digits 2 (s % 60)) (last_digits 2 (t % 60)) (fraction_text k f) (fraction_text k g) (sizes (s % 60) (t % 60)) (ap (λ xs. drop 1 xs) minutes.1) in
    let a : s / 3600 ≡ t / 3600 = same_small 2 (s / 3600) (t / 3600) (omega arith) (omega arith) hours.0 in
    let b : s / 60 % 60 ≡ t / 60 % 60 = same_small 2 (s / 60 % 60) (t / 60 % 60) (omega arith) (omega arith) minutes.0 in
    let c : s % 60 ≡ t % 60 = same_small 2 (s % 60) (t % 60) (omega arith) (omega arith) seconds.0 in
    (omega arith, same_fraction k f g (div-eq_of_lt hf ∙ sym (div-eq_of_lt hg)) seconds.1)

pos_injective : (a b : ℕ) → pos a ≡ pos b → a ≡ b
pos_injective a b e = cc

negsuc_injective : (a b : ℕ) → negsuc a ≡ negsuc b → a ≡ b
negsuc_injective a b e = cc

same_quotient : (p a b : ℕ) → a / p ≡ b / p → a % p ≡ b % p → a ≡ b
same_quotient p a b q r = sym (div-add-mod' a p) ∙ ap (λ i. i * p + a % p) q ∙ ap (λ i. b / p * p + i) r ∙ div-add-mod' b p

-- a number is its quotient and its remainder
pub same_division : (p : ℕ) (m n : ℤ) → 0 < p → int_div_euclid m (pos p) ≡ int_div_euclid n (pos p) → unsigned_abs (int_rem_euclid m (pos p)) ≡ unsigned_abs (int_rem_euclid n (pos p)) → m ≡ n
same_division p (pos a) (pos b) h q r = ap pos (same_quotient p a b (pos_injective (a / p) (b / p) q) r)
same_division p (pos a) (negsuc b) h q r = cc
same_division p (negsuc a) (pos b) h q r = cc
same_division p (negsuc a) (negsuc b) h q r = ap negsuc (same_quotient p a b (negsuc_injective (a / p) (b / p) q) (omega (arith, mod_below a p h, mod_below b p h)))

pub remainder_bound : (p : ℕ) (z : ℤ) → 0 < p → unsigned_abs (int_rem_euclid z (pos p)) < p
remainder_bound p (pos a) h = mod_below a p h
remainder_bound p (negsuc a) h = omega arith

pub same_time : (k : ℕ) (m n : ℤ) → whole_seconds k m ≡ whole_seconds k n → subseconds k m ≡ subseconds k n → m ≡ n
same_time k m n q r = same_division (10 ^ k) m n (ten_some k) q r

pub colon_at : (k s f : ℕ) → get_or (clock_text k s f) 2 0 ≡ 58
colon_at k s f = get_or_at (last_digits 2 (s / 3600)) 58 (last_digits 2 (s / 60 % 60) ++ (58 ∷ (last_digits 2 (s % 60) ++ fraction_text k f))) 0 2 (length-last_digits 2 (s / 3600))

pub in_day : (z : ℤ) → (not (int_lt z (pos 0)) && int_lt z (pos 86_400)) ≡ true → (unsigned_abs z < 86_400) × (z ≡ pos (unsigned_abs z))
in_day (pos a) h = (in_day_nat a h, refl)
in_day (negsuc a) h = cc

same_times : (k : ℕ) (m n : ℤ) (a b : Bool) → is_time_of_day k m ≡ a → is_time_of_day k n ≡ b → cond a (clock_text k (unsigned_abs (whole_seconds k m)) (subseconds k m)) (signed_integer_text m) ≡ cond b (clock_text k (unsigned_abs (whole_seconds k n)) (subseconds k n)) (signed_integer_text n) → m ≡ n
same_times k m n true true h i e =
    let p = in_day (whole_seconds k m) h in
    let q = in_day (whole_seconds k n) i in
    let parts = clock_injective k (unsigned_abs (whole_seconds k m)) (subseconds k m) (unsigned_abs (whole_seconds k n)) (subseconds k n) p.0 q.0 (remainder_bound (10 ^ k) m (ten_some k)) (remainder_bound (10 ^ k) n (ten_some k)) e in
    same_time k m n (p.1 ∙ ap pos parts.0 ∙ sym q.1) parts.1
same_times k m n true false h i e = absurd (omega (arith, sym (colon_at k (unsigned_abs (whole_seconds k m)) (subseconds k m)) ∙ ap (λ xs. get_or xs 2 0) e, no_letters_integer n 2))
same_times k m n false true h i e = absurd (omega (arith, sym (colon_at k (unsigned_abs (whole_seconds k n)) (subseconds k n)) ∙ ap (λ xs. get_or xs 2 0) (sym e), no_letters_integer m 2))
same_times k m n false false h i e = integer_injective m n e

pub time_injective : (k : ℕ) (m n : ℤ) → time_text k m ≡ time_text k n → m ≡ n
time_injective k m n e = same_times k m n (is_time_of_day k m) (is_time_of_day k n) refl refl e

abbrev pub timestamp_tail : ℕ → Bool → ℤ → List ℕ
timestamp_tail k utc n = clock_text k (unsigned_abs (int_rem_euclid (whole_seconds k n) (pos 86_400))) (subseconds k n) ++ zone_text utc

pub length-tail : (k : ℕ) (utc : Bool) (m n : ℤ) → length (timestamp_tail k utc m) ≡ length (timestamp_tail k utc n)
length-tail k utc m n =
    let size : (z : ℤ) → length (timestamp_tail k utc z) ≡ 8 + cond (nat_eq k 0) 0 (suc k) + length (zone_text utc) = λ z.
    omega (arith, length-append (clock_text k (unsigned_abs (int_rem_euclid (whole_seconds k z) (pos 86_400))) (subseconds k z)) (zone_text utc), length-clock k (unsigned_abs (int_rem_euclid (whole_seconds k z) (pos 86_400))) (subseconds k z), length-fraction k (subseconds k z)) in
    size m ∙ sym (size n)

pub timestamp_injective : (k : ℕ) (utc : Bool) (m n : ℤ) → timestamp_text k utc m ≡ timestamp_text k utc n → m ≡ n
timestamp_injective k utc m n e =
    let a = int_div_euclid (whole_seconds k m) (pos 86_400) in
    let b = int_div_euclid (whole_seconds k n) (pos 86_400) in
    let s = unsigned_abs (int_rem_euclid (whole_seconds k m) (pos 86_400)) in
    let t = unsigned_abs (int_rem_euclid (whole_seconds k n) (pos 86_400)) in
    let days = same_parts (date_text a) (date_text b) (84 ∷ timestamp_tail k utc m) (84 ∷ timestamp_tail k utc n) (ap suc (length-tail k utc m n)) e in
    let clocks = same_parts (clock_text k s (subseconds k m)) (clock_text k t (subseconds k n)) (zone_text utc) (zone_text utc) refl (ap (λ xs. drop 1 xs) days.1) in
    let parts = clock_injective k s (subseconds k m) t (subseconds k n) (remainder_bound 86_400 (whole_seconds k m) (omega arith)) (remainder_bound 86_400 (whole_seconds k n) (omega arith)) (remainder_bound (10 ^ k) m (ten_some k)) (remainder_bound (10 ^ k) n (ten_some k)) clocks.0 in
    same_time k m n (same_division 86_400 (whole_seconds k m) (whole_seconds k n) (omega arith) (date_injective a b days.0) parts.0) parts.1

pub has_letter : (n m : ℤ) (xs : List ℕ) → ¬ (date_text n ≡ date_text m ++ (84 ∷ xs))
has_letter n m xs e = omega (arith, get_or_at (date_text m) 84 xs 0 (length (date_text m)) refl, ap (λ zs. get_or zs (length (date_text m)) 0) e, no_letters_date n (length (date_text m)))

same_dates : (m n : ℤ) (a b : Bool) → nat_eq (unsigned_abs (int_rem_euclid m (pos 86_400_000))) 0 ≡ a → nat_eq (unsigned_abs (int_rem_euclid n (pos 86_400_000))) 0 ≡ b → cond a (date_text (int_div_euclid m (pos 86_400_000))) (timestamp_text 3 false m) ≡ cond b (date_text (int_div_euclid n (pos 86_400_000))) (timestamp_text 3 false n) → m ≡ n
same_dates m n true true h i e =
    let p : unsigned_abs (int_rem_euclid m (pos 86_400_000)) ≡ 0 = zero_true (unsigned_abs (int_rem_euclid m (pos 86_400_000))) h in
    let q : unsigned_abs (int_rem_euclid n (pos 86_400_000)) ≡ 0 = zero_true (unsigned_abs (int_rem_euclid n (pos 86_400_000))) i in
    same_division 86_400_000 m n (omega arith) (date_injective (int_div_euclid m (pos 86_400_000)) (int_div_euclid n (pos 86_400_000)) e) (p ∙ sym q)
same_dates m n true false h i e = absurd (has_letter (int_div_euclid m (pos 86_400_000)) (int_div_euclid (whole_seconds 3 n) (pos 86_400)) (timestamp_tail 3 false n) e)
same_dates m n false true h i e = absurd (has_letter (int_div_euclid n (pos 86_400_000)) (int_div_euclid (whole_seconds 3 m) (pos 86_400)) (timestamp_tail 3 false m) (sym e))
same_dates m n false false h i e = timestamp_injective 3 false m n e

pub millisecond_date_injective : (m n : ℤ) → millisecond_date_text m ≡ millisecond_date_text n → m ≡ n
millisecond_date_injective m n e = same_dates m n (nat_eq (unsigned_abs (int_rem_euclid m (pos 86_400_000))) 0) (nat_eq (unsigned_abs (int_rem_euclid n (pos 86_400_000))) 0) refl refl e

-- ---- durations and intervals

pub duration_injective : (k : ℕ) (m n : ℤ) → duration_text k m ≡ duration_text k n → m ≡ n
duration_injective k m n e = decimal_injective k m n (same_parts (decimal_text k m) (decimal_text k n) (codes "S") (codes "S") refl (ap (λ xs. drop 2 xs) e)).0

pub months_injective : (m n : ℤ) → months_text m ≡ months_text n → m ≡ n
months_injective m n e = integer_injective m n (same_parts (signed_integer_text m) (signed_integer_text n) (codes "M") (codes "M") refl (ap (λ xs. drop 1 xs) e)).0

pub days_injective : (k : ℕ) (a m b n : ℤ) → days_text k a m ≡ days_text k b n → (a ≡ b) × (m ≡ n)
days_injective k a m b n e =
    let days = same_until_letter (signed_integer_text a) (signed_integer_text b) 68 (84 ∷ (decimal_text k m ++ codes "S")) (84 ∷ (decimal_text k n ++ codes "S")) (omega arith) (no_letters_integer a) (no_letters_integer b) e in
    (integer_injective a b days.0, decimal_injective k m n (same_parts (decimal_text k m) (decimal_text k n) (codes "S") (codes "S") refl (ap (λ xs. drop 1 xs) days.1)).0)

pub days_ms_injective : (a m b n : ℤ) → days_ms_text a m ≡ days_ms_text b n → (a ≡ b) × (m ≡ n)
days_ms_injective a m b n e = days_injective 3 a m b n (ap (λ xs. drop 1 xs) e)

pub month_day_nano_injective : (x a m y b n : ℤ) → month_day_nano_text x a m ≡ month_day_nano_text y b n → (x ≡ y) × (a ≡ b) × (m ≡ n)
month_day_nano_injective x a m y b n e =
    let months = same_until_letter (signed_integer_text x) (signed_integer_text y) 77 (days_text 9 a m) (days_text 9 b n) (omega arith) (no_letters_integer x) (no_letters_integer y) (ap (λ xs. drop 1 xs) e) in
    let days = days_injective 9 a m b n months.1 in
    (integer_injective x y months.0, days.0, days.1)
