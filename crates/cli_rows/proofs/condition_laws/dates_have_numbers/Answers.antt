use Rattle.std.proofs.Common.{codes, negsuc, pos, refl, arith}
use Rattle.json_write.specs.Calendar.{date_of, year_of, month_of, first_day, days_of_months}
use Rattle.json_write.specs.Digits.{last_digits, number_text}
use Rattle.cli_rows.proofs.TimeExamples.{day-of}
use Rattle.cli_rows.proofs.condition_laws.dates_have_numbers.Goals as goal

pub returns-clause-first : goal.returns-clause-first
unfolding date_of year_of month_of first_day days_of_months last_digits number_text
returns-clause-first c = day-of (codes "1970-01-01") (pos 0) (record { sfits = omega arith }) refl

pub returns-clause-before : goal.returns-clause-before
unfolding date_of year_of month_of first_day days_of_months last_digits number_text
returns-clause-before c = day-of (codes "1969-12-31") (negsuc 0) (record { sfits = omega arith }) refl

pub returns-clause-leap_day : goal.returns-clause-leap_day
unfolding date_of year_of month_of first_day days_of_months last_digits number_text
returns-clause-leap_day c = day-of (codes "2000-02-29") (pos 11_016) (record { sfits = omega arith }) refl

pub returns-clause-negative : goal.returns-clause-negative
unfolding date_of year_of month_of first_day days_of_months last_digits number_text
returns-clause-negative c = day-of (codes "-000001-12-31") (negsuc 719_528) (record { sfits = omega arith }) refl
