-- Years that begin on 1 March, which the calendar computes with.
use Rattle.std.specs.Prelude.{ℕ, ◌+◌, ◌-◌, ◌*◌, ◌/◌, ℤ, pos, ◌+ℤ◌, ◌-ℤ◌, ◌*ℤ◌}

-- the days of the first `n` of them from the year 0 on
abbrev pub march_days : ℕ → ℕ
march_days n = 365 * n + n / 4 - n / 100 + n / 400

-- the days from 1 March to the first of a month from 3 to 14, where 13 and 14 are the next year's January and February
abbrev pub march_months : ℕ → ℕ
march_months m = (153 * m - 457) / 5

-- the number of a day of a year `a` after the start of cycle `q`, which begins in March
abbrev pub march_day_number : ℤ → ℕ → ℕ → ℕ → ℤ
march_day_number q a m d = q *ℤ pos 146_097 +ℤ pos (march_days a + march_months m + d) -ℤ pos 719_469
