use Rattle.std.proofs.lemmas.Bool.Decides.{same_from_decides}
use Rattle.nest_model.specs.SameArrayLaws.{same_array-decides}
use Rattle.nest_flat.specs.AnyPrimitive.{primitive_layout}
use Rattle.nest_flat.proofs.any_primitive.equality.AnyPrimitivePartialEq.eq.Goals as goal

pub returns-clause-computes : goal.returns-clause-computes
returns-clause-computes c = same_from_decides _ _ c.same_arrays.ensures (same_array-decides (primitive_layout c.args.self.now) (primitive_layout c.args.other.now))
