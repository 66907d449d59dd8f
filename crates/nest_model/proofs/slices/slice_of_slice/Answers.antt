use Rattle.nest_model.specs.SliceLaws.{layout-cut-cut}
use Rattle.nest_model.proofs.slices.slice_of_slice.Goals as goal

pub returns : goal.returns
returns c = layout-cut-cut
