use Rattle.std.proofs.Common.{refl}
use Rattle.cli_read.proofs.laws.rows_are_taken_in_order.Goals as goal

pub returns-clause-two : goal.returns-clause-two
returns-clause-two c = (2, (refl, refl))

pub returns-clause-twice : goal.returns-clause-twice
returns-clause-twice c = (1, (refl, refl))

pub returns-clause-none : goal.returns-clause-none
returns-clause-none c = (0, (refl, refl))
