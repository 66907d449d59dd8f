use Rattle.nest_model.specs.SameArrayLaws.{same-len, same-slot, same-from_places}
use Rattle.nest_model.proofs.same.by_indices.Goals as goal

pub returns-clause-length : goal.returns-clause-length
returns-clause-length c = same-len

pub returns-clause-places : goal.returns-clause-places
returns-clause-places c = same-slot

pub returns-clause-back : goal.returns-clause-back
returns-clause-back c = same-from_places
