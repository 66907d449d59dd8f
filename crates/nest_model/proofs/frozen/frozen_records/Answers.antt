use Rattle.nest_model.specs.BuilderFreezeLaws.{struct-frozen}
use Rattle.nest_model.proofs.frozen.frozen_records.Goals as goal

pub returns : goal.returns
returns c = struct-frozen
