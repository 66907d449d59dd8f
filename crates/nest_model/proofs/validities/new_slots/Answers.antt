use Rattle.nest_model.specs.ValidityLaws.{null-with_validity, slot-with_validity}
use Rattle.nest_model.proofs.validities.new_slots.Goals as goal

pub returns-clause-nulls : goal.returns-clause-nulls
returns-clause-nulls c = null-with_validity

pub returns-clause-others : goal.returns-clause-others
returns-clause-others c = slot-with_validity
