use Rattle.nest_model.specs.BuilderFreezeLaws.{dictionary-frozen}
use Rattle.nest_model.proofs.frozen.frozen_dictionaries.Goals as goal

pub returns : goal.returns
returns c = dictionary-frozen
