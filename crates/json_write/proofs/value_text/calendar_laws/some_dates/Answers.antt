use Rattle.std.proofs.Common.{refl}
use Rattle.json_write.specs.Calendar.{date_of, year_of, month_of, first_day, days_of_months}
use Rattle.json_write.proofs.value_text.calendar_laws.some_dates.Goals as goal

pub returns-clause-epoch : goal.returns-clause-epoch
unfolding date_of year_of month_of first_day days_of_months
returns-clause-epoch c = refl

pub returns-clause-leap_day : goal.returns-clause-leap_day
unfolding date_of year_of month_of first_day days_of_months
returns-clause-leap_day c = refl

pub returns-clause-no_leap_day : goal.returns-clause-no_leap_day
unfolding date_of year_of month_of first_day days_of_months
returns-clause-no_leap_day c = refl

pub returns-clause-negative : goal.returns-clause-negative
unfolding date_of year_of month_of first_day days_of_months
returns-clause-negative c = refl

pub returns-clause-four_digits : goal.returns-clause-four_digits
unfolding date_of year_of month_of first_day days_of_months
returns-clause-four_digits c = refl
