use Rattle.nest_model.specs.BuilderRowCheckLaws.{row-outcome, lengths-outcome, join-outcome}
use Rattle.nest_model.proofs.builder_refusals.one_outcome.Goals as goal

pub returns-clause-row : goal.returns-clause-row
returns-clause-row c = row-outcome

pub returns-clause-lengths : goal.returns-clause-lengths
returns-clause-lengths c = lengths-outcome

pub returns-clause-join : goal.returns-clause-join
returns-clause-join c = join-outcome
