use Rattle.nest_model.specs.BuilderRefusalLaws.{nulls-both}
use Rattle.nest_model.proofs.builder_refusals.nulls_passing.Goals as goal

pub returns : goal.returns
returns c = nulls-both
