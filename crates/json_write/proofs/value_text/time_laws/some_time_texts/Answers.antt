use Rattle.std.proofs.Common.{refl}
use Rattle.json_write.specs.Calendar.{date_of, year_of, month_of, first_day, days_of_months}
use Rattle.json_write.specs.Digits.{last_digits, number_text}
use Rattle.json_write.proofs.value_text.time_laws.some_time_texts.Goals as goal

pub returns-clause-time : goal.returns-clause-time
unfolding date_of year_of month_of first_day days_of_months last_digits number_text
returns-clause-time c = refl

pub returns-clause-past_the_day : goal.returns-clause-past_the_day
unfolding date_of year_of month_of first_day days_of_months last_digits number_text
returns-clause-past_the_day c = refl

pub returns-clause-before_the_day : goal.returns-clause-before_the_day
unfolding date_of year_of month_of first_day days_of_months last_digits number_text
returns-clause-before_the_day c = refl

pub returns-clause-timestamp : goal.returns-clause-timestamp
unfolding date_of year_of month_of first_day days_of_months last_digits number_text
returns-clause-timestamp c = refl

pub returns-clause-utc : goal.returns-clause-utc
unfolding date_of year_of month_of first_day days_of_months last_digits number_text
returns-clause-utc c = refl

pub returns-clause-before_1970 : goal.returns-clause-before_1970
unfolding date_of year_of month_of first_day days_of_months last_digits number_text
returns-clause-before_1970 c = refl
