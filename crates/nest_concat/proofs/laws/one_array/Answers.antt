use Rattle.nest_concat.specs.JoinedLaws.{joined-one}
use Rattle.nest_concat.proofs.laws.one_array.Goals as goal

pub returns : goal.returns
returns c = joined-one
