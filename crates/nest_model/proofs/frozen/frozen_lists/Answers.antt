use Rattle.nest_model.specs.BuilderFreezeLaws.{list-frozen}
use Rattle.nest_model.proofs.frozen.frozen_lists.Goals as goal

pub returns : goal.returns
returns c = list-frozen
