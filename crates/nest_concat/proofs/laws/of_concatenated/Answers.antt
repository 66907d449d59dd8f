use Rattle.nest_concat.specs.JoinedLaws.{joined-first, joined-last}
use Rattle.nest_concat.proofs.laws.of_concatenated.Goals as goal

pub returns-clause-first : goal.returns-clause-first
returns-clause-first c = joined-first

pub returns-clause-last : goal.returns-clause-last
returns-clause-last c = joined-last
