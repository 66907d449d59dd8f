-- Dates, times of day, timestamps, durations and intervals as text (ISO 8601-1:2019). Their values count units of 1 s, 10^-3 s, 10^-6 s or
-- 10^-9 s (Arrow columnar format, Schema.fbs, `TimeUnit`), and their text has 0, 3, 6 or 9 digits of a second after the point.
use Rattle.std.specs.Prelude.{ℕ, suc, ◌+◌, ◌/◌, ◌%◌, ◌^◌, ◌==◌, nat_lt, ℤ, pos, unsigned_abs, int_lt, Bool, false, not, ◌&&◌, List, [], ◌∷◌, ◌++◌, codes, if◌then◌else◌}
use Rattle.std.specs.Int.{int_div_euclid, int_rem_euclid}
use Rattle.json_write.specs.Calendar.{date_of}
use Rattle.json_write.specs.Decimals.{decimal_text}
use Rattle.json_write.specs.Digits.{signed_integer_text, last_digits, at_least, fraction_text}
use Rattle.json_write.specs.declared.value_text.calendar.Date.{Date}
use Rattle.nest_memory.specs.declared.datatypes.TimeUnit.{TimeUnit}
use Rattle.nest_memory.specs.declared.datatypes.TimeUnit.TheVariants.{Second, Millisecond, Microsecond, Nanosecond}

-- the digits of a second after the point
abbrev pub unit_digits : TimeUnit → ℕ
unit_digits Second = 0
unit_digits Millisecond = 3
unit_digits Microsecond = 6
unit_digits Nanosecond = 9

-- ---- dates

-- four digits from year 0 to 9999, else a sign and at least six (4.1.2.4)
abbrev pub year_text : ℤ → List ℕ
year_text y =
    if int_lt y (pos 0) then 45 ∷ at_least 6 (unsigned_abs y)
    else (if nat_lt (unsigned_abs y) 10_000 then last_digits 4 (unsigned_abs y) else 43 ∷ at_least 6 (unsigned_abs y))

-- year, month and day
abbrev pub calendar_text : Date → List ℕ
calendar_text d = year_text d.year ++ (45 ∷ (last_digits 2 d.month ++ (45 ∷ last_digits 2 d.day)))

-- the date of a day, counted from 1970-01-01
abbrev pub date_text : ℤ → List ℕ
date_text n = calendar_text (date_of n)

-- ---- times

-- the whole seconds of a count of units of 10^-k s, rounded down
abbrev pub whole_seconds : ℕ → ℤ → ℤ
whole_seconds k n = int_div_euclid n (pos (10 ^ k))

-- and the units after them
abbrev pub subseconds : ℕ → ℤ → ℕ
subseconds k n = unsigned_abs (int_rem_euclid n (pos (10 ^ k)))

-- hours, minutes and seconds of a second of the day, and its fraction
abbrev pub clock_text : ℕ → ℕ → ℕ → List ℕ
clock_text k second fraction =
    last_digits 2 (second / 3600) ++ (58 ∷ (last_digits 2 (second / 60 % 60) ++ (58 ∷ (last_digits 2 (second % 60) ++ fraction_text k fraction))))

-- the length of that text
abbrev pub clock_length : ℕ → ℕ
clock_length k = 8 + (if k == 0 then 0 else suc k)

-- from midnight to the end of the day
abbrev pub is_time_of_day : ℕ → ℤ → Bool
is_time_of_day k n = not (int_lt (whole_seconds k n) (pos 0)) && int_lt (whole_seconds k n) (pos 86_400)

-- the units since midnight as a time of day; any other number is itself
abbrev pub time_text : ℕ → ℤ → List ℕ
time_text k n = if is_time_of_day k n then clock_text k (unsigned_abs (whole_seconds k n)) (subseconds k n) else signed_integer_text n

-- `Z` marks UTC
abbrev pub zone_text : Bool → List ℕ
zone_text utc = if utc then 90 ∷ [] else []

-- the units since 1970-01-01T00:00:00
abbrev pub timestamp_text : ℕ → Bool → ℤ → List ℕ
timestamp_text k utc n =
    let second = whole_seconds k n in
    date_text (int_div_euclid second (pos 86_400)) ++ (84 ∷ (clock_text k (unsigned_abs (int_rem_euclid second (pos 86_400))) (subseconds k n) ++ zone_text utc))

-- the milliseconds of a date: a whole number of days is a date
abbrev pub millisecond_date_text : ℤ → List ℕ
millisecond_date_text n = if unsigned_abs (int_rem_euclid n (pos 86_400_000)) == 0 then date_text (int_div_euclid n (pos 86_400_000)) else timestamp_text 3 false n

-- ---- durations and intervals

abbrev pub duration_text : ℕ → ℤ → List ℕ
duration_text k n = codes "PT" ++ (decimal_text k n ++ codes "S")

abbrev pub months_text : ℤ → List ℕ
months_text months = codes "P" ++ (signed_integer_text months ++ codes "M")

-- the days and the seconds after them
abbrev pub days_text : ℕ → ℤ → ℤ → List ℕ
days_text k days units = signed_integer_text days ++ (codes "DT" ++ (decimal_text k units ++ codes "S"))

-- days and milliseconds
abbrev pub days_ms_text : ℤ → ℤ → List ℕ
days_ms_text days ms = codes "P" ++ days_text 3 days ms

-- months, days and nanoseconds
abbrev pub month_day_nano_text : ℤ → ℤ → ℤ → List ℕ
month_day_nano_text months days ns = codes "P" ++ (signed_integer_text months ++ (codes "M" ++ days_text 9 days ns))
