use Rattle.nest_model.specs.SameArrayLaws.{same-cut}
use Rattle.nest_model.proofs.same.same_slices.Goals as goal

pub returns : goal.returns
returns c = same-cut
