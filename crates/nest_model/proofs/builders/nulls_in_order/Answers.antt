use Rattle.nest_model.specs.BuilderAppendLaws.{nulls-more}
use Rattle.nest_model.proofs.builders.nulls_in_order.Goals as goal

pub returns : goal.returns
returns c = nulls-more
