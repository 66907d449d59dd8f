use Rattle.std.proofs.lemmas.Bool.Decides.{same_from_decides}
use Rattle.nest_model.specs.SameArrayLaws.{same_array-decides}
use Rattle.nest_array.proofs.equal.whole.same_arrays.Goals as goal

pub returns-clause-computes : goal.returns-clause-computes
returns-clause-computes g c = same_from_decides _ _ c.same_arrays_counted.ensures.same (same_array-decides (g.A.Array.layout c.args.x.now) (g.A.Array.layout c.args.y.now))
