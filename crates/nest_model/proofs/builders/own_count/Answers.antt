use Rattle.nest_model.specs.BuilderLevelLaws.{own-length}
use Rattle.nest_model.proofs.builders.own_count.Goals as goal

pub returns : goal.returns
returns c = own-length
