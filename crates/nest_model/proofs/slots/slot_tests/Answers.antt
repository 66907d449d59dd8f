use Rattle.nest_model.specs.SlotCode.{same_slot-decides, same_slots-decides}
use Rattle.nest_model.proofs.slots.slot_tests.Goals as goal

pub returns-clause-slot : goal.returns-clause-slot
returns-clause-slot c = same_slot-decides

pub returns-clause-list : goal.returns-clause-list
returns-clause-list c = same_slots-decides
