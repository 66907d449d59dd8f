use Rattle.std.proofs.lemmas.Bool.Decides.{same_from_decides}
use Rattle.nest_memory.specs.TypeEq.{same_type-decides}
use Rattle.nest_memory.proofs.datatypes.equality.DataTypePartialEq.eq.Goals as goal

pub returns-clause-computes : goal.returns-clause-computes
returns-clause-computes c = same_from_decides _ _ c.same.ensures (same_type-decides _ _)
