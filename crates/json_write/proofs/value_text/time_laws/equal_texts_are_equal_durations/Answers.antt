use Rattle.json_write.proofs.DecimalFacts.{decimal_injective}
use Rattle.json_write.proofs.TimeFacts.{duration_injective, months_injective, days_ms_injective, month_day_nano_injective}
use Rattle.json_write.proofs.value_text.time_laws.equal_texts_are_equal_durations.Goals as goal

pub returns-clause-duration : goal.returns-clause-duration
returns-clause-duration c k m n e = duration_injective k m n e

pub returns-clause-months : goal.returns-clause-months
returns-clause-months c m n e = months_injective m n e

pub returns-clause-days_ms : goal.returns-clause-days_ms
returns-clause-days_ms c a m b n e = days_ms_injective a m b n e

pub returns-clause-month_day_nano : goal.returns-clause-month_day_nano
returns-clause-month_day_nano c x a m y b n e = month_day_nano_injective x a m y b n e

pub returns-clause-decimal : goal.returns-clause-decimal
returns-clause-decimal c scale m n e = decimal_injective scale m n e
