-- The days of years, counted within cycles of 400 years and from March.
use Rattle.std.proofs.Common.{◌≡◌, ℕ, zero, suc, ◌+◌, ◌-◌, ◌*◌, ◌%◌, ◌<◌, ◌≤◌, true, false, nat_eq, nat_le, sym, ap, ◌∙◌, arith, ℤ, pos, negsuc, ◌+ℤ◌, ◌-ℤ◌, ◌*ℤ◌, unsigned_abs}
use Rattle.std.proofs.lemmas.Bool.Decides.{nat_tests, same_from_decides, Decides-like, Decides-eqb}
use Rattle.std.specs.Int.{int_div_euclid, int_rem_euclid}
use Rattle.json_write.specs.Calendar.{is_leap_year, days_in_year, days_of_years, first_day, year_of}
use Rattle.json_write.specs.March.{march_days}
use Rattle.json_write.proofs.Signed.{signed}
use Rattle.json_write.proofs.Months.{extra, last_is}
use borrow.Author.Differences.{up, down}

-- the year `y` is year `a` after the start of cycle `q`
abbrev pub IsYearOf : ℤ → ℤ → ℕ → Type 0
IsYearOf y q a = y ≡ q *ℤ pos 400 +ℤ pos a

same_test : (m n : ℕ) → (m ≡ 0 → n ≡ 0) → (n ≡ 0 → m ≡ 0) → nat_eq m 0 ≡ nat_eq n 0
same_test m n f g = same_from_decides (nat_eq m 0) (nat_eq n 0) (Decides-like (nat_eq m 0) f g (Decides-eqb m 0)) (Decides-eqb n 0)

four : (y q : ℤ) (a : ℕ) → IsYearOf y q a → nat_eq (unsigned_abs y % 4) 0 ≡ nat_eq (a % 4) 0
four (pos m) q a e = let h : m + 400 * down q ≡ 400 * up q + a = omega (arith, signed) in same_test (m % 4) (a % 4) (λ z. omega arith) (λ z. omega arith)
four (negsuc m) q a e = let h : suc m + 400 * up q + a ≡ 400 * down q = omega (arith, signed) in same_test (suc m % 4) (a % 4) (λ z. omega arith) (λ z. omega arith)

hundred : (y q : ℤ) (a : ℕ) → IsYearOf y q a → nat_eq (unsigned_abs y % 100) 0 ≡ nat_eq (a % 100) 0
hundred (pos m) q a e = let h : m + 400 * down q ≡ 400 * up q + a = omega (arith, signed) in same_test (m % 100) (a % 100) (λ z. omega arith) (λ z. omega arith)
hundred (negsuc m) q a e = let h : suc m + 400 * up q + a ≡ 400 * down q = omega (arith, signed) in same_test (suc m % 100) (a % 100) (λ z. omega arith) (λ z. omega arith)

four_hundred : (y q : ℤ) (a : ℕ) → IsYearOf y q a → nat_eq (unsigned_abs y % 400) 0 ≡ nat_eq (a % 400) 0
four_hundred (pos m) q a e = let h : m + 400 * down q ≡ 400 * up q + a = omega (arith, signed) in same_test (m % 400) (a % 400) (λ z. omega arith) (λ z. omega arith)
four_hundred (negsuc m) q a e = let h : suc m + 400 * up q + a ≡ 400 * down q = omega (arith, signed) in same_test (suc m % 400) (a % 400) (λ z. omega arith) (λ z. omega arith)

-- the rule of leap years repeats every 400 years
pub leap-cycle : (y q : ℤ) (a : ℕ) → IsYearOf y q a → is_leap_year y ≡ is_leap_year (pos a)
leap-cycle y q a e = rw (four y q a e, hundred y q a e, four_hundred y q a e)

pub days_in_year-extra : (y : ℤ) → days_in_year y ≡ 365 + extra (is_leap_year y)
days_in_year-extra y = grind arith

-- the days of the years before and those of a year are the days of the years before the next
pub days_of_years-next : (n : ℕ) → days_of_years (suc n) ≡ days_of_years n + 365 + extra (is_leap_year (pos n))
days_of_years-next n = grind (arith, nat_tests)

-- a cycle has 146,097 days
pub days_of_years-cycles : (n k : ℕ) → days_of_years (n + 400 * k) ≡ days_of_years n + 146_097 * k
days_of_years-cycles n k = omega arith

-- the year that begins on 1 March of `n` ends with February of `n` + 1
pub march_days-next : (n : ℕ) → march_days (suc n) ≡ march_days n + 365 + extra (is_leap_year (pos (suc n)))
march_days-next n = grind (arith, nat_tests)

pub days_of_years-late : (n : ℕ) → days_of_years n + extra (is_leap_year (pos n)) ≡ march_days n + 1
days_of_years-late n = grind (arith, nat_tests)

pub days_of_years-early : (n : ℕ) → days_of_years (suc n) ≡ march_days n + 366
days_of_years-early n = omega arith

more_years : (n k : ℕ) → days_of_years n ≤ days_of_years (k + n)
more_years n zero = let same : 0 + n ≡ n = omega arith in rw same (omega arith)
more_years n (suc k) =
    let next : suc k + n ≡ suc (k + n) = omega arith in
    rw next (omega (arith, more_years n k, days_of_years-next (k + n)))

pub days_of_years-mono : (n later : ℕ) → n ≤ later → days_of_years n ≤ days_of_years later
days_of_years-mono n later h =
    let same : later - n + n ≡ later = omega arith in
    rw same at (more_years n (later - n))

-- the first day of a year, however its cycles are counted
pub first_day-is : (y q : ℤ) (a : ℕ) → IsYearOf y q a → first_day y ≡ q *ℤ pos 146_097 +ℤ pos (days_of_years a) -ℤ pos 719_528
unfolding first_day
first_day-is y q a e =
    let c = int_div_euclid y (pos 400) in
    let b = unsigned_abs (int_rem_euclid y (pos 400)) in
    let k = up c + down q - (up q + down c) in
    let split : (up c + down q ≡ up q + down c + k) × (a ≡ b + 400 * k) = omega (arith, signed) in
    let more : days_of_years a ≡ days_of_years b + 146_097 * k = rw split.1 (days_of_years-cycles b k) in
    omega (arith, signed)

-- the next year begins after the days of this one
pub first_day-next : (y : ℤ) → first_day (y +ℤ pos 1) ≡ first_day y +ℤ pos (days_in_year y)
first_day-next y =
    let q = int_div_euclid y (pos 400) in
    let a = unsigned_abs (int_rem_euclid y (pos 400)) in
    let here : IsYearOf y q a = omega (arith, signed) in
    let there : IsYearOf (y +ℤ pos 1) q (suc a) = omega (arith, signed) in
    let days : days_in_year y ≡ 365 + extra (is_leap_year (pos a)) = days_in_year-extra y ∙ ap (λ l. 365 + extra l) (leap-cycle y q a here) in
    rw (first_day-is y q a here, first_day-is (y +ℤ pos 1) q (suc a) there, days) (omega (arith, signed, days_of_years-next a))

begins_by : (n day : ℕ) → days_of_years n ≤ day → nat_le (days_of_years n) day ≡ true
begins_by n day h = grind (arith, nat_tests)

begins_after : (n day : ℕ) → day < days_of_years n → nat_le (days_of_years n) day ≡ false
begins_after n day h = grind (arith, nat_tests)

-- the year of a day is the one that has it
pub year_is : (n y : ℤ) (k : ℕ) → n ≡ first_day y +ℤ pos k → k < days_in_year y → year_of n ≡ y
unfolding year_of
year_is n y k e h =
    let q = int_div_euclid y (pos 400) in
    let a = unsigned_abs (int_rem_euclid y (pos 400)) in
    let here : IsYearOf y q a = omega (arith, signed) in
    let low : a < 400 = omega (arith, signed) in
    let size : days_in_year y ≡ 365 + extra (is_leap_year (pos a)) = days_in_year-extra y ∙ ap (λ l. 365 + extra l) (leap-cycle y q a here) in
    let next = days_of_years-next a in
    let last : days_of_years (suc a) ≤ 146_097 = days_of_years-mono (suc a) 400 (omega arith) in
    let from : n +ℤ pos 719_528 ≡ q *ℤ pos 146_097 +ℤ pos (days_of_years a + k) = omega (arith, signed, first_day-is y q a here) in
    let cycle : int_div_euclid (n +ℤ pos 719_528) (pos 146_097) ≡ q = omega (arith, signed) in
    let day : unsigned_abs (int_rem_euclid (n +ℤ pos 719_528) (pos 146_097)) ≡ days_of_years a + k = omega (arith, signed) in
    rw (cycle, day)
    (rw (last_is (λ i. nat_le (days_of_years i) (days_of_years a + k)) 399 a (omega arith) (begins_by a (days_of_years a + k) (omega arith))
    (λ i before after. begins_after i (days_of_years a + k) (omega (arith, days_of_years-mono (suc a) i (omega arith)))))
    (sym here))
