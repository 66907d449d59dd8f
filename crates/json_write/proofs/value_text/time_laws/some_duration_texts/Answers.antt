use Rattle.std.proofs.Common.{refl}
use Rattle.json_write.specs.Digits.{last_digits, number_text}
use Rattle.json_write.proofs.value_text.time_laws.some_duration_texts.Goals as goal

pub returns-clause-duration : goal.returns-clause-duration
unfolding last_digits number_text
returns-clause-duration c = refl

pub returns-clause-negative : goal.returns-clause-negative
unfolding last_digits number_text
returns-clause-negative c = refl

pub returns-clause-months : goal.returns-clause-months
unfolding last_digits number_text
returns-clause-months c = refl

pub returns-clause-days_ms : goal.returns-clause-days_ms
unfolding last_digits number_text
returns-clause-days_ms c = refl

pub returns-clause-month_day_nano : goal.returns-clause-month_day_nano
unfolding last_digits number_text
returns-clause-month_day_nano c = refl

pub returns-clause-decimal : goal.returns-clause-decimal
unfolding last_digits number_text
returns-clause-decimal c = refl

pub returns-clause-negative_decimal : goal.returns-clause-negative_decimal
unfolding last_digits number_text
returns-clause-negative_decimal c = refl
