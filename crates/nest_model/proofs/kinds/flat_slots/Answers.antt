use Rattle.nest_model.specs.FlatReads.{primitive-slots, boolean-slots}
use Rattle.nest_model.proofs.kinds.flat_slots.Goals as goal

pub returns-clause-natives : goal.returns-clause-natives
returns-clause-natives c = primitive-slots

pub returns-clause-bits : goal.returns-clause-bits
returns-clause-bits c = boolean-slots
