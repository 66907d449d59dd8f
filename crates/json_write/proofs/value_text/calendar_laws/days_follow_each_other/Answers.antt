use Rattle.json_write.proofs.Years.{first_day-next}
use Rattle.json_write.proofs.Days.{date_of-next}
use Rattle.json_write.proofs.value_text.calendar_laws.days_follow_each_other.Goals as goal

pub returns-clause-days : goal.returns-clause-days
returns-clause-days c n = date_of-next n

pub returns-clause-years : goal.returns-clause-years
returns-clause-years c y = first_day-next y
