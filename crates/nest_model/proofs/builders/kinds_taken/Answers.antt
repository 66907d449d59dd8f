use Rattle.nest_model.specs.BuilderTakesLaws.{takes-appended, takes-cut}
use Rattle.nest_model.specs.BuilderKindLaws.{takes-one}
use Rattle.nest_model.proofs.builders.kinds_taken.Goals as goal

pub returns-clause-appended : goal.returns-clause-appended
returns-clause-appended c = takes-appended

pub returns-clause-truncated : goal.returns-clause-truncated
returns-clause-truncated c = takes-cut

pub returns-clause-one_kind : goal.returns-clause-one_kind
returns-clause-one_kind c = takes-one
