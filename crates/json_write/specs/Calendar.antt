-- The proleptic Gregorian calendar (ISO 8601-1:2019, 4.2.1): year 0 precedes year 1, and one rule of leap years holds for all years.
-- Days are numbered from 1970-01-01, which is day 0 (Arrow columnar format, Schema.fbs, `Date`).
use Rattle.std.specs.Prelude.{ℕ, zero, suc, ◌+◌, ◌-◌, ◌*◌, ◌/◌, ◌%◌, ◌≤◌, Bool, not, ◌&&◌, ◌||◌, ◌==◌, nat_le, if◌then◌else◌, ℤ, pos, ◌+ℤ◌, ◌-ℤ◌, ◌*ℤ◌, unsigned_abs}
use Rattle.std.specs.Int.{int_div_euclid, int_rem_euclid}
use Rattle.json_write.specs.declared.value_text.calendar.Date.{Date}

-- a multiple of 4, but not of 100, unless of 400
abbrev pub is_leap_year : ℤ → Bool
is_leap_year y = (unsigned_abs y % 4 == 0) && (not (unsigned_abs y % 100 == 0) || (unsigned_abs y % 400 == 0))

abbrev pub days_in_year : ℤ → ℕ
days_in_year y = if is_leap_year y then 366 else 365

-- the days of a month, from 1 for January, in a leap year or another year
abbrev pub days_in_month : Bool → ℕ → ℕ
days_in_month leap m =
    if m == 2 then (if leap then 29 else 28)
    else (if (m == 4) || (m == 6) || (m == 9) || (m == 11) then 30 else 31)

-- the days of the first `n` months of a year
unfoldable pub days_of_months : Bool → ℕ → ℕ
days_of_months leap zero = 0
days_of_months leap (suc n) = days_of_months leap n + days_in_month leap (suc n)

-- The days of the years 0 to `n` - 1: a day more for each multiple of 4 among them, a day less for each of 100, a day more for each of 400.
abbrev pub days_of_years : ℕ → ℕ
days_of_years n = 365 * n + (n + 3) / 4 - (n + 99) / 100 + (n + 399) / 400

-- The calendar repeats every 400 years, which have 146,097 days. Year 0 begins on day -719,528.
-- the number of the first day of a year
unfoldable pub first_day : ℤ → ℤ
first_day y = int_div_euclid y (pos 400) *ℤ pos 146_097 +ℤ pos (days_of_years (unsigned_abs (int_rem_euclid y (pos 400)))) -ℤ pos 719_528

-- the date exists
pub record IsDate (d : Date) : Type 0 where
  pub month : (1 ≤ d.month) × (d.month ≤ 12)
  pub day : (1 ≤ d.day) × (d.day ≤ days_in_month (is_leap_year d.year) d.month)

-- the number of the day of a date
unfoldable pub day_number : Date → ℤ
day_number d = first_day d.year +ℤ pos (days_of_months (is_leap_year d.year) (d.month - 1) + d.day - 1)

-- the greatest number up to `k` that passes the test, or 0
abbrev pub last_up_to : (ℕ → Bool) → ℕ → ℕ
last_up_to p zero = zero
last_up_to p (suc k) = if p (suc k) then suc k else last_up_to p k

-- the year of a day: the last one of its 400 years that begins on the day or before it
unfoldable pub year_of : ℤ → ℤ
year_of n =
    let day = unsigned_abs (int_rem_euclid (n +ℤ pos 719_528) (pos 146_097)) in
    int_div_euclid (n +ℤ pos 719_528) (pos 146_097) *ℤ pos 400 +ℤ pos (last_up_to (λ y. nat_le (days_of_years y) day) 399)

-- the month of a day of a year, counted from 0: the last one that begins on the day or before it
unfoldable pub month_of : Bool → ℕ → ℕ
month_of leap day = suc (last_up_to (λ m. nat_le (days_of_months leap m) day) 11)

-- the date of a day of a year, counted from 0
abbrev pub date_in_year : ℤ → ℕ → Date
date_in_year y day =
    let m = month_of (is_leap_year y) day in
    record { year = y; month = m; day = day - days_of_months (is_leap_year y) (m - 1) + 1 }

-- the date of a day
unfoldable pub date_of : ℤ → Date
date_of n = date_in_year (year_of n) (unsigned_abs (n -ℤ first_day (year_of n)))

-- the date after a date
abbrev pub next_date : Date → Date
next_date d =
    if nat_le (d.day + 1) (days_in_month (is_leap_year d.year) d.month) then record { year = d.year; month = d.month; day = d.day + 1 }
    else (if nat_le (d.month + 1) 12 then record { year = d.year; month = d.month + 1; day = 1 } else record { year = d.year +ℤ pos 1; month = 1; day = 1 })
