use Rattle.nest_model.specs.BuilderAcceptLaws.{plain-none, none-plain}
use Rattle.nest_model.proofs.builder_refusals.refused_alike.Goals as goal

pub returns : goal.returns
returns c = λ v t. (plain-none v t, none-plain v t)
