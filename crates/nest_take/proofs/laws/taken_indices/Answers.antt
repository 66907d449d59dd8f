use Rattle.nest_take.specs.TakenLaws.{taken-twice}
use Rattle.nest_take.proofs.laws.taken_indices.Goals as goal

pub returns : goal.returns
returns c = taken-twice
