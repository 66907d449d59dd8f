use Rattle.json_write.proofs.TimeFacts.{date_injective, millisecond_date_injective, time_injective, timestamp_injective}
use Rattle.json_write.proofs.value_text.time_laws.equal_texts_are_equal_times.Goals as goal

pub returns-clause-date : goal.returns-clause-date
returns-clause-date c m n e = date_injective m n e

pub returns-clause-millisecond_date : goal.returns-clause-millisecond_date
returns-clause-millisecond_date c m n e = millisecond_date_injective m n e

pub returns-clause-time : goal.returns-clause-time
returns-clause-time c k m n e = time_injective k m n e

pub returns-clause-timestamp : goal.returns-clause-timestamp
returns-clause-timestamp c k utc m n e = timestamp_injective k utc m n e
