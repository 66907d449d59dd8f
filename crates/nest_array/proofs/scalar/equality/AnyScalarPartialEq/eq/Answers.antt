use Rattle.std.proofs.lemmas.Bool.Decides.{same_from_decides}
use Rattle.nest_array.specs.ScalarParts.{same_scalar-decides}
use Rattle.nest_array.proofs.scalar.equality.AnyScalarPartialEq.eq.Goals as goal

pub returns-clause-computes : goal.returns-clause-computes
returns-clause-computes c = same_from_decides _ _ c.are_same.ensures (same_scalar-decides c.args.self.now c.args.other.now)
