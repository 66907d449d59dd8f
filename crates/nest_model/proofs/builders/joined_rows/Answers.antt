use Rattle.nest_model.specs.BuilderJoinLaws.{joined-alike}
use Rattle.nest_model.proofs.builders.joined_rows.Goals as goal

pub returns : goal.returns
returns c = joined-alike
