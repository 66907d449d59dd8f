use Rattle.nest_model.specs.FitsLaws.{array-cut}
use Rattle.nest_model.proofs.slices.slice_is_array.Goals as goal

pub returns : goal.returns
returns c = array-cut
