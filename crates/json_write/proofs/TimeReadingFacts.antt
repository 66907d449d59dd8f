-- The parts of the text of dates and times.
use Rattle.std.proofs.Common.{◌≡◌, ℕ, zero, suc, ◌+◌, ◌-◌, ◌*◌, ◌/◌, ◌%◌, ◌^◌, ◌<◌, ◌≤◌, Bool, true, false, cond, nat_le, ◌≢◌, List, [], ◌∷◌, ◌++◌, length, get_or, take, drop, refl, sym, ap, ◌∙◌, subst, arith, length-append, ℤ, pos, negsuc, ◌+ℤ◌, ◌*ℤ◌, unsigned_abs}
use Rattle.std.proofs.Math.Seq.{take-append_seam, drop-append_seam}
use Rattle.std.specs.Int.{int_div_euclid, int_rem_euclid}
use Rattle.std.specs.Fmt.{sign_text}
use Rattle.json_write.specs.Calendar.{IsDate, is_leap_year, last_up_to, days_of_years, date_of, year_of}
use Rattle.json_write.specs.Digits.{last_digits, fraction_text}
use Rattle.json_write.specs.Times.{year_text, calendar_text, clock_text, unit_digits, whole_seconds, subseconds}
use Rattle.json_write.specs.declared.value_text.calendar.Date.{Date}
use Rattle.nest_memory.specs.declared.datatypes.TimeUnit.{TimeUnit}
use Rattle.nest_memory.specs.declared.datatypes.TimeUnit.TheVariants.{Second, Millisecond, Microsecond, Nanosecond}
use Rattle.json_write.proofs.Signed.{signed}
use Rattle.json_write.proofs.DigitFacts.{same_small}
use Rattle.json_write.proofs.TimeFacts.{date_tail, one_date, small_day, year_injective}
use Rattle.json_write.proofs.ReadingFacts.{digits_some}
use Rattle.std.proofs.lemmas.List.{length-take, length-drop}

-- a text that ends with a part of known length
pub split_tail : (bs xs ys : List ℕ) (n : ℕ) → bs ≡ xs ++ ys → length ys ≡ n → (take (length bs - n) bs ≡ xs) × (drop (length bs - n) bs ≡ ys)
split_tail bs xs ys n e l =
    let at : length bs - n ≡ length xs = omega (arith, ap length e, length-append xs ys) in
    (ap (λ i. take i bs) at ∙ ap (λ zs. take (length xs) zs) e ∙ take-append_seam xs ys, ap (λ i. drop i bs) at ∙ ap (λ zs. drop (length xs) zs) e ∙ drop-append_seam xs ys)

-- ---- times of day

-- the parts of eight bytes and the rest
pub eight : (bs : List ℕ) → 8 ≤ length bs → bs ≡ take 2 bs ++ (get_or bs 2 0 ∷ (take 2 (drop 3 bs) ++ (get_or bs 5 0 ∷ (take 2 (drop 6 bs) ++ drop 8 bs))))
eight [] h = absurd (omega arith)
eight (a ∷ []) h = absurd (omega arith)
eight (a ∷ b ∷ []) h = absurd (omega arith)
eight (a ∷ b ∷ c ∷ []) h = absurd (omega arith)
eight (a ∷ b ∷ c ∷ d ∷ []) h = absurd (omega arith)
eight (a ∷ b ∷ c ∷ d ∷ e ∷ []) h = absurd (omega arith)
eight (a ∷ b ∷ c ∷ d ∷ e ∷ f ∷ []) h = absurd (omega arith)
eight (a ∷ b ∷ c ∷ d ∷ e ∷ f ∷ g ∷ []) h = absurd (omega arith)
eight (a ∷ b ∷ c ∷ d ∷ e ∷ f ∷ g ∷ i ∷ rest) h = refl

-- the parts of a time of day
pub record IsClock (bs : List ℕ) (k s f : ℕ) : Type 0 where
  pub long : 8 ≤ length bs
  pub hours : take 2 bs ≡ last_digits 2 (s / 3600)
  pub colon : get_or bs 2 0 ≡ 58
  pub minutes : take 2 (drop 3 bs) ≡ last_digits 2 (s / 60 % 60)
  pub second_colon : get_or bs 5 0 ≡ 58
  pub seconds : take 2 (drop 6 bs) ≡ last_digits 2 (s % 60)
  pub fraction : drop 8 bs ≡ fraction_text k f

of_clock : (k s f : ℕ) → IsClock (clock_text k s f) k s f
unfolding last_digits
of_clock k s f = record { long = omega arith; hours = refl; colon = refl; minutes = refl; second_colon = refl; seconds = refl; fraction = refl }

pub clock_parts : (bs : List ℕ) (k s f : ℕ) → bs ≡ clock_text k s f → IsClock bs k s f
clock_parts bs k s f e = subst (λ xs. IsClock xs k s f) (sym e) (of_clock k s f)

pub clock_joined : (bs : List ℕ) (k s f : ℕ) → IsClock bs k s f → bs ≡ clock_text k s f
clock_joined bs k s f p =
    let join : List ℕ → ℕ → List ℕ → ℕ → List ℕ → List ℕ → List ℕ = λ x u y v z w. x ++ (u ∷ (y ++ (v ∷ (z ++ w)))) in
    let h = last_digits 2 (s / 3600) in
    let m = last_digits 2 (s / 60 % 60) in
    eight bs p.long
    ∙ ap (λ x. join x (get_or bs 2 0) (take 2 (drop 3 bs)) (get_or bs 5 0) (take 2 (drop 6 bs)) (drop 8 bs)) p.hours
    ∙ ap (λ u. join h u (take 2 (drop 3 bs)) (get_or bs 5 0) (take 2 (drop 6 bs)) (drop 8 bs)) p.colon
    ∙ ap (λ y. join h 58 y (get_or bs 5 0) (take 2 (drop 6 bs)) (drop 8 bs)) p.minutes
    ∙ ap (λ v. join h 58 m v (take 2 (drop 6 bs)) (drop 8 bs)) p.second_colon
    ∙ ap (λ z. join h 58 m 58 z (drop 8 bs)) p.seconds
    ∙ ap (λ w. join h 58 m 58 (last_digits 2 (s % 60)) w) p.fraction

-- ---- dates

pub six : (bs : List ℕ) → length bs ≡ 6 → bs ≡ get_or bs 0 0 ∷ (take 2 (drop 1 bs) ++ (get_or bs 3 0 ∷ take 2 (drop 4 bs)))
six [] h = absurd (omega arith)
six (a ∷ []) h = absurd (omega arith)
six (a ∷ b ∷ []) h = absurd (omega arith)
six (a ∷ b ∷ c ∷ []) h = absurd (omega arith)
six (a ∷ b ∷ c ∷ d ∷ []) h = absurd (omega arith)
six (a ∷ b ∷ c ∷ d ∷ e ∷ []) h = absurd (omega arith)
six (a ∷ b ∷ c ∷ d ∷ e ∷ f ∷ []) h = refl
six (a ∷ b ∷ c ∷ d ∷ e ∷ f ∷ g ∷ rest) h = absurd (omega arith)

-- the parts of a month and a day
pub record IsTail (bs : List ℕ) (m d : ℕ) : Type 0 where
  pub dash : get_or bs 0 0 ≡ 45
  pub month : take 2 (drop 1 bs) ≡ last_digits 2 m
  pub second_dash : get_or bs 3 0 ≡ 45
  pub day : take 2 (drop 4 bs) ≡ last_digits 2 d

of_tail : (d : Date) → IsTail (date_tail d) d.month d.day
unfolding last_digits
of_tail d = record { dash = refl; month = refl; second_dash = refl; day = refl }

pub tail_parts : (bs : List ℕ) (d : Date) → bs ≡ date_tail d → IsTail bs d.month d.day
tail_parts bs d e = subst (λ xs. IsTail xs d.month d.day) (sym e) (of_tail d)

pub tail_joined : (bs : List ℕ) (d : Date) → length bs ≡ 6 → IsTail bs d.month d.day → bs ≡ date_tail d
tail_joined bs d l p =
    let join : ℕ → List ℕ → ℕ → List ℕ → List ℕ = λ u x v y. u ∷ (x ++ (v ∷ y)) in
    six bs l
    ∙ ap (λ u. join u (take 2 (drop 1 bs)) (get_or bs 3 0) (take 2 (drop 4 bs))) p.dash
    ∙ ap (λ x. join 45 x (get_or bs 3 0) (take 2 (drop 4 bs))) p.month
    ∙ ap (λ v. join 45 (last_digits 2 d.month) v (take 2 (drop 4 bs))) p.second_dash
    ∙ ap (λ y. join 45 (last_digits 2 d.month) 45 y) p.day

last_bound_at : (b : Bool) (k n : ℕ) → n ≤ k → cond b (suc k) n ≤ suc k
last_bound_at true k n h = omega arith
last_bound_at false k n h = omega arith

last_bound : (p : ℕ → Bool) (k : ℕ) → last_up_to p k ≤ k
last_bound p zero = omega arith
last_bound p (suc k) = last_bound_at (p (suc k)) k (last_up_to p k) (last_bound p k)

-- the year of a day is about a 365th of it
bound_parts : (n y : ℤ) (a : ℕ) → y ≡ int_div_euclid (n +ℤ pos 719_528) (pos 146_097) *ℤ pos 400 +ℤ pos a → a ≤ 399 → unsigned_abs n < 10 ^ 17 → unsigned_abs y < 10 ^ 15
bound_parts n (pos m) a e small h = omega (arith, signed)
bound_parts n (negsuc m) a e small h = omega (arith, signed)

pub year_bound : (n : ℤ) → unsigned_abs n < 10 ^ 17 → unsigned_abs (year_of n) < 10 ^ 15
unfolding year_of
year_bound n h =
    let day = unsigned_abs (int_rem_euclid (n +ℤ pos 719_528) (pos 146_097)) in
    let years : ℕ = last_up_to (λ y. nat_le (days_of_years y) day) 399 in
    bound_parts n (year_of n) years refl (last_bound (λ y. nat_le (days_of_years y) day) 399) h

pub date_year : (n : ℤ) → unsigned_abs n < 10 ^ 17 → unsigned_abs ((date_of n).year) < 10 ^ 15
unfolding date_of
date_year n h = year_bound n h

-- ---- signs

pub signed_minus : (b : Bool) (ys rest : List ℕ) → 48 ≤ get_or ys 0 0 → 45 ∷ rest ≡ sign_text b ++ ys → (rest ≡ ys) × (b ≡ true)
signed_minus true ys rest h e = (ap (λ xs. drop 1 xs) e, refl)
signed_minus false ys rest h e = absurd (omega (arith, ap (λ xs. get_or xs 0 0) e))

pub signed_plain : (b : Bool) (ys xs : List ℕ) → get_or xs 0 0 ≢ 45 → xs ≡ sign_text b ++ ys → (xs ≡ ys) × (b ≡ false)
signed_plain true ys xs h e = absurd (h (ap (λ zs. get_or zs 0 0) e))
signed_plain false ys xs h e = (e, refl)

-- ---- seconds and a fraction

pub time_joined : (u : TimeUnit) (s : ℤ) (f : ℕ) → f < 10 ^ unit_digits u → (whole_seconds (unit_digits u) (s *ℤ pos (10 ^ unit_digits u) +ℤ pos f) ≡ s) × (subseconds (unit_digits u) (s *ℤ pos (10 ^ unit_digits u) +ℤ pos f) ≡ f)
time_joined Second s f h = (omega (arith, signed), omega (arith, signed))
time_joined Millisecond s f h = (omega (arith, signed), omega (arith, signed))
time_joined Microsecond s f h = (omega (arith, signed), omega (arith, signed))
time_joined Nanosecond s f h = (omega (arith, signed), omega (arith, signed))

pub time_split : (u : TimeUnit) (n : ℤ) → n ≡ whole_seconds (unit_digits u) n *ℤ pos (10 ^ unit_digits u) +ℤ pos (subseconds (unit_digits u) n)
time_split Second n = omega (arith, signed)
time_split Millisecond n = omega (arith, signed)
time_split Microsecond n = omega (arith, signed)
time_split Nanosecond n = omega (arith, signed)

-- ---- values from the digits of their parts

pub two_long : (xs : List ℕ) (i : ℕ) → i + 2 ≤ length xs → length (take 2 (drop i xs)) ≡ 2
two_long xs i h = omega (arith, length-take 2 (drop i xs), length-drop i xs)

-- two digits, read as a number
pub record AreTwo (xs : List ℕ) (n : ℕ) : Type 0 where
  pub long : length xs ≡ 2
  pub small : n < 10 ^ length xs
  pub digits : xs ≡ last_digits (length xs) n

two_same : (xs : List ℕ) (m n : ℕ) → AreTwo xs m → n < 100 → xs ≡ last_digits 2 n → m ≡ n
two_same xs m n h small e =
    let p = digits_some xs 2 m h.long h.small h.digits in
    same_small 2 m n p.0 small (sym p.1 ∙ e)

two_is : (xs : List ℕ) (n : ℕ) → AreTwo xs n → xs ≡ last_digits 2 n
two_is xs n h = (digits_some xs 2 n h.long h.small h.digits).1

pub clock_same : (bs : List ℕ) (k s f h m c : ℕ) → IsClock bs k s f → s < 86_400 → AreTwo (take 2 bs) h → AreTwo (take 2 (drop 3 bs)) m → AreTwo (take 2 (drop 6 bs)) c → (h ≡ s / 3600) × (m ≡ s / 60 % 60) × (c ≡ s % 60)
clock_same bs k s f h m c p small hours minutes seconds =
    (two_same (take 2 bs) h (s / 3600) hours (omega arith) p.hours, two_same (take 2 (drop 3 bs)) m (s / 60 % 60) minutes (omega arith) p.minutes, two_same (take 2 (drop 6 bs)) c (s % 60) seconds (omega arith) p.seconds)

pub clock_read : (bs : List ℕ) (k f h m c : ℕ) → 8 ≤ length bs → get_or bs 2 0 ≡ 58 → get_or bs 5 0 ≡ 58 → h < 24 → m < 60 → c < 60 → AreTwo (take 2 bs) h → AreTwo (take 2 (drop 3 bs)) m → AreTwo (take 2 (drop 6 bs)) c → drop 8 bs ≡ fraction_text k f → bs ≡ clock_text k (h * 3600 + m * 60 + c) f
clock_read bs k f h m c long colon second_colon hs ms cs hours minutes seconds fraction =
    let s = h * 3600 + m * 60 + c in
    let a : h ≡ s / 3600 = omega arith in
    let b : m ≡ s / 60 % 60 = omega arith in
    let d : c ≡ s % 60 = omega arith in
    clock_joined bs k s f (record {
      long = long;
      colon = colon;
      second_colon = second_colon;
      fraction = fraction;
      hours = two_is (take 2 bs) h hours ∙ ap (last_digits 2) a;
      minutes = two_is (take 2 (drop 3 bs)) m minutes ∙ ap (last_digits 2) b;
      seconds = two_is (take 2 (drop 6 bs)) c seconds ∙ ap (last_digits 2) d;
    })

pub calendar_same : (rest : List ℕ) (y : ℤ) (m k : ℕ) (d : Date) → IsDate d → IsTail rest d.month d.day → year_text y ≡ year_text d.year → AreTwo (take 2 (drop 1 rest)) m → AreTwo (take 2 (drop 4 rest)) k → IsDate (record { year = y; month = m; day = k })
calendar_same rest y m k d h tail year month day =
    let read : Date = record { year = y; month = m; day = k } in
    let same = one_date read d (year_injective y d.year year) (two_same (take 2 (drop 1 rest)) m d.month month (omega (arith, h.month.1)) tail.month) (two_same (take 2 (drop 4 rest)) k d.day day (small_day (is_leap_year d.year) d.month d.day h.day.1) tail.day) in
    subst IsDate (sym same) h

pub calendar_read : (text front rest : List ℕ) (d : Date) → text ≡ front ++ rest → front ≡ year_text d.year → length rest ≡ 6 → get_or rest 0 0 ≡ 45 → get_or rest 3 0 ≡ 45 → AreTwo (take 2 (drop 1 rest)) d.month → AreTwo (take 2 (drop 4 rest)) d.day → text ≡ calendar_text d
calendar_read text front rest d e year long dash second_dash month day =
    let tail = tail_joined rest d long (record { dash = dash; second_dash = second_dash; month = two_is (take 2 (drop 1 rest)) d.month month; day = two_is (take 2 (drop 4 rest)) d.day day }) in
    e ∙ ap (λ xs. xs ++ rest) year ∙ ap (λ xs. year_text d.year ++ xs) tail
