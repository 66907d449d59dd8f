-- Dates and the numbers of their days.
use Rattle.std.proofs.Common.{◌≡◌, ℕ, suc, ◌+◌, ◌-◌, ◌*◌, ◌/◌, ◌%◌, ◌<◌, ◌≤◌, true, false, cond, nat_le, refl, sym, ap, ◌∙◌, arith, ℤ, pos, ◌+ℤ◌, ◌-ℤ◌, ◌*ℤ◌, unsigned_abs}
use Rattle.std.proofs.lemmas.Bool.Decides.{nat_tests}
use Rattle.std.specs.Int.{int_div_euclid, int_rem_euclid}
use Rattle.json_write.specs.Calendar.{is_leap_year, days_in_year, days_in_month, days_of_months, first_day, IsDate, day_number, year_of, month_of, date_in_year, date_of, next_date}
use Rattle.json_write.specs.March.{march_days, march_months}
use Rattle.json_write.specs.declared.value_text.calendar.Date.{Date}
use Rattle.json_write.proofs.Signed.{signed}
use Rattle.json_write.proofs.Months.{extra, days_of_months-next, days_of_months-all, days_of_months-none, days_of_months-early, days_of_months-late, days_of_months-mono, month_and_day, day_in_month, day_in_early_month, month_is}
use Rattle.json_write.proofs.Years.{IsYearOf, leap-cycle, days_in_year-extra, march_days-next, days_of_years-late, days_of_years-early, first_day-is, first_day-next, year_is}

pub day_number-parts : (d : Date) → day_number d ≡ first_day d.year +ℤ pos (days_of_months (is_leap_year d.year) (d.month - 1) + d.day - 1)
unfolding day_number
day_number-parts d = refl

-- a day of a year is before the days of the year are over
pub day_within_year : (d : Date) → IsDate d → days_of_months (is_leap_year d.year) (d.month - 1) + d.day - 1 < days_in_year d.year
day_within_year d h =
    let leap = is_leap_year d.year in
    omega (arith, days_of_months-next leap d.month h.month.0, days_of_months-mono leap d.month 12 h.month.1, days_of_months-all leap, days_in_year-extra d.year)

pub year_of-date : (d : Date) → IsDate d → year_of (day_number d) ≡ d.year
year_of-date d h = year_is (day_number d) d.year (days_of_months (is_leap_year d.year) (d.month - 1) + d.day - 1) (day_number-parts d) (day_within_year d h)

-- the date of a day of a year
date_in_year-is : (d : Date) (k : ℕ) → IsDate d → k ≡ days_of_months (is_leap_year d.year) (d.month - 1) + d.day - 1 → date_in_year d.year k ≡ d
date_in_year-is d k h e =
    let leap = is_leap_year d.year in
    let next = days_of_months-next leap d.month h.month.0 in
    let m : month_of leap k ≡ d.month = month_is leap d.month k h.month.0 h.month.1 (omega arith) (omega arith) in
    let day : k - days_of_months leap (d.month - 1) + 1 ≡ d.day = omega arith in
    rw m (rw day refl)

-- a date is the date of its day
pub date_of-day_number : (d : Date) → IsDate d → date_of (day_number d) ≡ d
unfolding date_of
date_of-day_number d h =
    let since : day_number d -ℤ first_day d.year ≡ pos (days_of_months (is_leap_year d.year) (d.month - 1) + d.day - 1) = omega (arith, signed, day_number-parts d) in
    rw (year_of-date d h) (date_in_year-is d (unsigned_abs (day_number d -ℤ first_day d.year)) h (ap unsigned_abs since))

pub date_of-is : (d : Date) (n : ℤ) → IsDate d → day_number d ≡ n → date_of n ≡ d
date_of-is d n h e = ap date_of (sym e) ∙ date_of-day_number d h

-- ---- by years that begin in March

pub number_late : (d : Date) (q : ℤ) (a : ℕ) → IsYearOf d.year q a → 3 ≤ d.month → d.month ≤ 12 → 1 ≤ d.day → day_number d ≡ q *ℤ pos 146_097 +ℤ pos (march_days a + march_months d.month + d.day) -ℤ pos 719_469
number_late d q a e low high first =
    let leap : extra (is_leap_year d.year) ≡ extra (is_leap_year (pos a)) = ap extra (leap-cycle d.year q a e) in
    omega (arith, signed, day_number-parts d, first_day-is d.year q a e, days_of_months-late (is_leap_year d.year) d.month low high, days_of_years-late a)

pub number_early : (d : Date) (q : ℤ) (a : ℕ) → IsYearOf d.year q (suc a) → 1 ≤ d.month → d.month ≤ 2 → 1 ≤ d.day → day_number d ≡ q *ℤ pos 146_097 +ℤ pos (march_days a + march_months (d.month + 12) + d.day) -ℤ pos 719_469
number_early d q a e low high first =
    omega (arith, signed, day_number-parts d, first_day-is d.year q (suc a) e, days_of_months-early (is_leap_year d.year) d.month low high, days_of_years-early a)

-- the date with this year, of a day of a year that begins in March
abbrev pub late_date : ℤ → ℕ → Date
late_date y r = record { year = y; month = (5 * r + 461) / 153; day = (5 * r + 461) % 153 / 5 + 1 }

abbrev pub early_date : ℤ → ℕ → Date
early_date y r = record { year = y; month = (5 * r + 461) / 153 - 12; day = (5 * r + 461) % 153 / 5 + 1 }

-- the day `n` is day `r` of year `a` after the start of cycle `q`
abbrev pub IsMarchDay : ℤ → ℤ → ℕ → ℕ → Type 0
IsMarchDay n q a r = n ≡ q *ℤ pos 146_097 +ℤ pos (march_days a + r) -ℤ pos 719_468

pub late_date-exists : (y : ℤ) (r : ℕ) → (5 * r + 461) / 153 ≤ 12 → IsDate (late_date y r)
late_date-exists y r high = record { month = (omega arith, high); day = (omega arith, day_in_month (is_leap_year y) r high) }

pub late_date-number : (n y q : ℤ) (a r : ℕ) → IsYearOf y q a → IsMarchDay n q a r → r < 366 → (5 * r + 461) / 153 ≤ 12 → day_number (late_date y r) ≡ n
late_date-number n y q a r e h bound high =
    omega (arith, signed, number_late (late_date y r) q a e (omega arith) high (omega arith), month_and_day r bound)

pub early_date-exists : (y q : ℤ) (a r : ℕ) → IsYearOf y q (suc a) → march_days a + r < march_days (suc a) → r < 366 → 12 < (5 * r + 461) / 153 → IsDate (early_date y r)
early_date-exists y q a r e within bound high =
    let leap : extra (is_leap_year y) ≡ extra (is_leap_year (pos (suc a))) = ap extra (leap-cycle y q (suc a) e) in
    record { month = (omega arith, omega arith); day = (omega arith, day_in_early_month (is_leap_year y) r high (omega (arith, march_days-next a))) }

pub early_date-number : (n y q : ℤ) (a r : ℕ) → IsYearOf y q (suc a) → IsMarchDay n q a r → r < 366 → 12 < (5 * r + 461) / 153 → day_number (early_date y r) ≡ n
early_date-number n y q a r e h bound high =
    let back : (5 * r + 461) / 153 - 12 + 12 ≡ (5 * r + 461) / 153 = omega arith in
    let m = rw back at (number_early (early_date y r) q a e (omega arith) (omega arith) (omega arith)) in
    omega (arith, signed, m, month_and_day r bound)

-- ---- each day has a date

abbrev pub IsDateOf : Date → ℤ → Type 0
IsDateOf d n = IsDate d × (day_number d ≡ n)

march_year_is : (days : ℕ) → days < 300_000 → let s = 4 * days + 3 in let i = s % 146_097 / 4 * 4 + 3 in let a = 100 * (s / 146_097) + i / 1461 in (march_days a + i % 1461 / 4 ≡ days) × (days < march_days (suc a)) × (i % 1461 / 4 < 366)
march_year_is days h = omega arith

some_date : (n q : ℤ) (a r : ℕ) → IsMarchDay n q a r → march_days a + r < march_days (suc a) → r < 366 → (d : Date) × IsDateOf d n
some_date n q a r h within bound =
    elim (nat_le ((5 * r + 461) / 153) 12) as (λ b. nat_le ((5 * r + 461) / 153) 12 ≡ b → (d : Date) × IsDateOf d n) [
      | true ↦ λ e.
          let high : (5 * r + 461) / 153 ≤ 12 = grind (arith, nat_tests) in
          let y = q *ℤ pos 400 +ℤ pos a in
          (late_date y r, (late_date-exists y r high, late_date-number n y q a r refl h bound high))
      | false ↦ λ e.
          let high : 12 < (5 * r + 461) / 153 = grind (arith, nat_tests) in
          let y = q *ℤ pos 400 +ℤ pos (suc a) in
          (early_date y r, (early_date-exists y q a r refl within bound high, early_date-number n y q a r refl h bound high))
    ] refl

date_at : (n : ℤ) → (d : Date) × IsDateOf d n
date_at n =
    let q = int_div_euclid n (pos 146_097) +ℤ pos 4 in
    let days = unsigned_abs (int_rem_euclid n (pos 146_097)) + 135_080 in
    let s = 4 * days + 3 in
    let i = s % 146_097 / 4 * 4 + 3 in
    let a = 100 * (s / 146_097) + i / 1461 in
    let r = i % 1461 / 4 in
    let small : days < 300_000 = omega (arith, signed) in
    let parts = march_year_is days small in
    let whole : march_days a + r ≡ days = parts.0 in
    let within : march_days a + r < march_days (suc a) = rw (parts.0) parts.1 in
    let here : IsMarchDay n q a r = rw whole (omega (arith, signed)) in
    some_date n q a r here within parts.2

pub date_of-exists : (n : ℤ) → IsDate (date_of n)
date_of-exists n = let (d, h) = date_at n in rw (date_of-is d n h.0 h.1) h.0

pub day_number-date_of : (n : ℤ) → day_number (date_of n) ≡ n
day_number-date_of n = let (d, h) = date_at n in rw (date_of-is d n h.0 h.1) h.1

-- ---- the next day

same_month : (d : Date) → IsDate d → d.day + 1 ≤ days_in_month (is_leap_year d.year) d.month → IsDateOf (record { year = d.year; month = d.month; day = d.day + 1 }) (day_number d +ℤ pos 1)
same_month d h more =
    let e : Date = record { year = d.year; month = d.month; day = d.day + 1 } in
    let there : IsDate e = record { month = h.month; day = (omega arith, more) } in
    (there, omega (arith, signed, day_number-parts d, day_number-parts e))

next_month : (d : Date) → IsDate d → days_in_month (is_leap_year d.year) d.month < d.day + 1 → d.month + 1 ≤ 12 → IsDateOf (record { year = d.year; month = d.month + 1; day = 1 }) (day_number d +ℤ pos 1)
next_month d h last more =
    let leap = is_leap_year d.year in
    let e : Date = record { year = d.year; month = d.month + 1; day = 1 } in
    let back : d.month + 1 - 1 ≡ d.month = omega arith in
    let some : 1 ≤ days_in_month leap (d.month + 1) = grind arith in
    let there : IsDate e = record { month = (omega arith, more); day = (omega arith, some) } in
    (there, omega (arith, signed, day_number-parts d, rw back at (day_number-parts e), days_of_months-next leap d.month h.month.0))

next_year : (d : Date) → IsDate d → days_in_month (is_leap_year d.year) d.month < d.day + 1 → 12 < d.month + 1 → IsDateOf (record { year = d.year +ℤ pos 1; month = 1; day = 1 }) (day_number d +ℤ pos 1)
next_year d h last more =
    let leap = is_leap_year d.year in
    let e : Date = record { year = d.year +ℤ pos 1; month = 1; day = 1 } in
    let december : d.month ≡ 12 = omega arith in
    let some : 1 ≤ days_in_month (is_leap_year (d.year +ℤ pos 1)) 1 = omega arith in
    let there : IsDate e = record { month = (omega arith, omega arith); day = (omega arith, some) } in
    let twelve : days_of_months leap d.month ≡ 365 + extra leap = rw december (days_of_months-all leap) in
    (there, omega (arith, signed, day_number-parts d, day_number-parts e, days_of_months-next leap d.month h.month.0, twelve, first_day-next d.year, days_in_year-extra d.year, days_of_months-none (is_leap_year (d.year +ℤ pos 1))))

pub next_date-is : (d : Date) → IsDate d → IsDateOf (next_date d) (day_number d +ℤ pos 1)
next_date-is d h =
    let leap = is_leap_year d.year in
    elim (nat_le (d.day + 1) (days_in_month leap d.month)) as (λ b. nat_le (d.day + 1) (days_in_month leap d.month) ≡ b → IsDateOf (cond b (record { year = d.year; month = d.month; day = d.day + 1 }) (cond (nat_le (d.month + 1) 12) (record { year = d.year; month = d.month + 1; day = 1 }) (record { year = d.year +ℤ pos 1; month = 1; day = 1 }))) (day_number d +ℤ pos 1)) [
      | true ↦ λ e. same_month d h (grind (arith, nat_tests))
      | false ↦ λ e.
          let last : days_in_month leap d.month < d.day + 1 = grind (arith, nat_tests) in
          elim (nat_le (d.month + 1) 12) as (λ b. nat_le (d.month + 1) 12 ≡ b → IsDateOf (cond b (record { year = d.year; month = d.month + 1; day = 1 }) (record { year = d.year +ℤ pos 1; month = 1; day = 1 })) (day_number d +ℤ pos 1)) [
            | true ↦ λ f. next_month d h last (grind (arith, nat_tests))
            | false ↦ λ f. next_year d h last (grind (arith, nat_tests))
          ] refl
    ] refl

pub date_of-next : (n : ℤ) → date_of (n +ℤ pos 1) ≡ next_date (date_of n)
date_of-next n =
    let h = next_date-is (date_of n) (date_of-exists n) in
    date_of-is (next_date (date_of n)) (n +ℤ pos 1) h.0 (h.1 ∙ ap (λ m. m +ℤ pos 1) (day_number-date_of n))
