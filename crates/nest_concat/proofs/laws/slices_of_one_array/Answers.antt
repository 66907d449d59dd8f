use Rattle.nest_concat.specs.JoinedLaws.{joined-cuts}
use Rattle.nest_concat.proofs.laws.slices_of_one_array.Goals as goal

pub returns : goal.returns
returns c = joined-cuts
