use Rattle.nest_model.specs.BuilderAcceptLaws.{accepted-null}
use Rattle.nest_model.proofs.builders.accepted_null.Goals as goal

pub returns : goal.returns
returns c = accepted-null
