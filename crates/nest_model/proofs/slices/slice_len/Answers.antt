use Rattle.nest_model.specs.SliceLaws.{len-cut}
use Rattle.nest_model.proofs.slices.slice_len.Goals as goal

pub returns : goal.returns
returns c = len-cut
