use Rattle.nest_model.specs.BuilderAppendLaws.{type-appended}
use Rattle.nest_model.proofs.builders.appending_keeps_type.Goals as goal

pub returns : goal.returns
returns c = type-appended
