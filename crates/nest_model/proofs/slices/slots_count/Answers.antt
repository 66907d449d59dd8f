use Rattle.nest_model.specs.Reads.{slots-length}
use Rattle.nest_model.proofs.slices.slots_count.Goals as goal

pub returns : goal.returns
returns c = slots-length
