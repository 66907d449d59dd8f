use Rattle.nest_model.specs.NullnessLaws.{null_at-slot, slot-null_at}
use Rattle.nest_model.proofs.validities.null_indices.Goals as goal

pub returns-clause-null_there : goal.returns-clause-null_there
returns-clause-null_there c = null_at-slot

pub returns-clause-back : goal.returns-clause-back
returns-clause-back c = slot-null_at
