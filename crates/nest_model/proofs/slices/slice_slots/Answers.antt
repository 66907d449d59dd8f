use Rattle.nest_model.specs.SliceLaws.{slots-cut}
use Rattle.nest_model.proofs.slices.slice_slots.Goals as goal

pub returns : goal.returns
returns c = slots-cut
