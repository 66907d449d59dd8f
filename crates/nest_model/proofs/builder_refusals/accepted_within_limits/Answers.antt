use Rattle.nest_model.specs.BuilderLimitLaws.{item-within}
use Rattle.nest_model.proofs.builder_refusals.accepted_within_limits.Goals as goal

pub returns : goal.returns
returns c = item-within
