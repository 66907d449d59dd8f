use Rattle.nest_model.specs.BuilderFreezeLaws.{fixed_size_list-frozen}
use Rattle.nest_model.proofs.frozen.frozen_fixed_size_lists.Goals as goal

pub returns : goal.returns
returns c = fixed_size_list-frozen
