use Rattle.std.proofs.Common.{sym, ap, ◌∙◌}
use Rattle.json_write.specs.Calendar.{day_number}
use Rattle.json_write.proofs.Days.{date_of-exists, day_number-date_of, date_of-day_number, date_of-is}
use Rattle.json_write.proofs.value_text.calendar_laws.days_are_dates.Goals as goal

pub returns-clause-exists : goal.returns-clause-exists
returns-clause-exists c n = date_of-exists n

pub returns-clause-number : goal.returns-clause-number
returns-clause-number c n = day_number-date_of n

pub returns-clause-date : goal.returns-clause-date
returns-clause-date c d h = date_of-day_number d h

pub returns-clause-one_day : goal.returns-clause-one_day
returns-clause-one_day c d e h i same = sym (date_of-day_number d h) ∙ date_of-is e (day_number d) i (sym same)

pub returns-clause-one_date : goal.returns-clause-one_date
returns-clause-one_date c m n same = sym (day_number-date_of m) ∙ ap day_number same ∙ day_number-date_of n
