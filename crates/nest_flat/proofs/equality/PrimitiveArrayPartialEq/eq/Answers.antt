use Rattle.std.proofs.lemmas.Bool.Decides.{same_from_decides}
use Rattle.nest_model.specs.SameArrayLaws.{same_array-decides}
use Rattle.nest_flat.proofs.equality.PrimitiveArrayPartialEq.eq.Goals as goal

pub returns-clause-computes : goal.returns-clause-computes
returns-clause-computes g c = same_from_decides _ _ c.same_arrays.ensures (same_array-decides c.args.self.now c.args.other.now)
