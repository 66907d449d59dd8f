use Rattle.std.proofs.Common.{refl}
use Rattle.json_write.specs.Calendar.{date_of, year_of, month_of, first_day, days_of_months}
use Rattle.json_write.specs.Digits.{last_digits, number_text}
use Rattle.json_write.proofs.value_text.time_laws.some_date_texts.Goals as goal

pub returns-clause-leap_day : goal.returns-clause-leap_day
unfolding date_of year_of month_of first_day days_of_months last_digits number_text
returns-clause-leap_day c = refl

pub returns-clause-five_digits : goal.returns-clause-five_digits
unfolding date_of year_of month_of first_day days_of_months last_digits number_text
returns-clause-five_digits c = refl

pub returns-clause-negative : goal.returns-clause-negative
unfolding date_of year_of month_of first_day days_of_months last_digits number_text
returns-clause-negative c = refl

pub returns-clause-day : goal.returns-clause-day
unfolding date_of year_of month_of first_day days_of_months last_digits number_text
returns-clause-day c = refl

pub returns-clause-time : goal.returns-clause-time
unfolding date_of year_of month_of first_day days_of_months last_digits number_text
returns-clause-time c = refl
