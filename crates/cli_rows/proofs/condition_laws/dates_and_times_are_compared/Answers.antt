use Rattle.std.proofs.Common.{codes, pos, [], refl, arith}
use Rattle.json_write.specs.Calendar.{date_of, year_of, month_of, first_day, days_of_months}
use Rattle.json_write.specs.Digits.{last_digits, number_text}
use Rattle.nest_memory.specs.declared.datatypes.TimeUnit.TheVariants.{Second, Millisecond, Microsecond, Nanosecond}
use Rattle.cli_args.specs.declared.condition.Comparison.TheVariants.{Equal, Less, LessOrEqual, Greater, GreaterOrEqual}
use Rattle.cli_rows.proofs.TimeExamples.{date-compared, midnight-compared, milliseconds-compared, time-compared, timestamp-compared, zoned-compared}
use Rattle.cli_rows.proofs.condition_laws.dates_and_times_are_compared.Goals as goal

pub returns-clause-date : goal.returns-clause-date
unfolding date_of year_of month_of first_day days_of_months last_digits number_text
returns-clause-date c = date-compared Equal (codes "2000-02-29") (pos 11_016) (pos 11_016) (record { sfits = omega arith }) refl

pub returns-clause-earlier : goal.returns-clause-earlier
unfolding date_of year_of month_of first_day days_of_months last_digits number_text
returns-clause-earlier c = date-compared GreaterOrEqual (codes "2000-02-29") (pos 11_016) (pos 11_015) (record { sfits = omega arith }) refl

pub returns-clause-time : goal.returns-clause-time
unfolding date_of year_of month_of first_day days_of_months last_digits number_text
returns-clause-time c = time-compared Greater (codes "12:34:56") Millisecond (pos 45_296) (pos 45_296_001) ((record { sfits = omega arith }), refl) refl

pub returns-clause-utc : goal.returns-clause-utc
unfolding date_of year_of month_of first_day days_of_months last_digits number_text
returns-clause-utc c = zoned-compared Equal (codes "2024-02-29T12:34:56Z") Microsecond [] (pos 1_709_210_096) (pos 1_709_210_096_000_000) (record { sfits = omega arith }) refl

pub returns-clause-no_zone : goal.returns-clause-no_zone
unfolding date_of year_of month_of first_day days_of_months last_digits number_text
returns-clause-no_zone c = timestamp-compared Less (codes "2024-02-29T12:34:56") Nanosecond (pos 1_709_210_096) (pos 1_709_210_095_999_999_999) (record { sfits = omega arith }) refl

pub returns-clause-midnight : goal.returns-clause-midnight
unfolding date_of year_of month_of first_day days_of_months last_digits number_text
returns-clause-midnight c = midnight-compared LessOrEqual (codes "2024-02-29") Second (pos 19_782) (pos 1_709_164_800) (record { sfits = omega arith }) refl

pub returns-clause-milliseconds : goal.returns-clause-milliseconds
unfolding date_of year_of month_of first_day days_of_months last_digits number_text
returns-clause-milliseconds c = milliseconds-compared Equal (codes "2024-02-29") (pos 19_782) (pos 1_709_164_800_000) (record { sfits = omega arith }) refl
