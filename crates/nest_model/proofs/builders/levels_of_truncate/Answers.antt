use Rattle.nest_model.specs.BuilderTruncateLaws.{levels-cut}
use Rattle.nest_model.proofs.builders.levels_of_truncate.Goals as goal

pub returns : goal.returns
returns c = levels-cut
