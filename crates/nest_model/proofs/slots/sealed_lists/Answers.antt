use Rattle.nest_model.specs.SlotLaws.{unseal-seal, seal-unseal, seal-one, unseal-one}
use Rattle.nest_model.proofs.slots.sealed_lists.Goals as goal

pub returns-clause-out : goal.returns-clause-out
returns-clause-out c = unseal-seal

pub returns-clause-back : goal.returns-clause-back
returns-clause-back c = seal-unseal

pub returns-clause-one : goal.returns-clause-one
returns-clause-one c = seal-one

pub returns-clause-one_back : goal.returns-clause-one_back
returns-clause-one_back c = unseal-one
