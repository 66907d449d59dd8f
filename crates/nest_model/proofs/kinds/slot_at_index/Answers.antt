use Rattle.nest_model.specs.Reads.{slot-place}
use Rattle.nest_model.proofs.kinds.slot_at_index.Goals as goal

pub returns : goal.returns
returns c = slot-place
