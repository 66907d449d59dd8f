use Rattle.nest_take.specs.TakenLaws.{taken-all}
use Rattle.nest_take.proofs.laws.all_indices.Goals as goal

pub returns : goal.returns
returns c = taken-all
