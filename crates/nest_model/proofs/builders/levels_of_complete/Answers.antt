use Rattle.nest_model.specs.BuilderTruncateLaws.{levels-needed}
use Rattle.nest_model.proofs.builders.levels_of_complete.Goals as goal

pub returns : goal.returns
returns c = levels-needed
