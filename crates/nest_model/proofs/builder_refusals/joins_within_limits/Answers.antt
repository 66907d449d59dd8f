use Rattle.nest_model.specs.BuilderRowCheckLaws.{pass-joined, joined-pass}
use Rattle.nest_model.proofs.builder_refusals.joins_within_limits.Goals as goal

pub returns : goal.returns
returns c = λ t u h. (pass-joined t u h, joined-pass t u h)
