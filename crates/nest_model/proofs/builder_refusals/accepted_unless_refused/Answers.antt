use Rattle.nest_model.specs.BuilderAcceptLaws.{accepted-item}
use Rattle.nest_model.proofs.builder_refusals.accepted_unless_refused.Goals as goal

pub returns : goal.returns
returns c = accepted-item
