use Rattle.std.proofs.lemmas.Bool.Decides.{same_from_decides}
use Rattle.nest_memory.specs.TypeEq.{same_field-decides}
use Rattle.nest_memory.proofs.datatypes.equality.FieldPartialEq.eq.Goals as goal

pub returns-clause-computes : goal.returns-clause-computes
returns-clause-computes c = same_from_decides _ _ c.same_field.ensures (same_field-decides _ _)
