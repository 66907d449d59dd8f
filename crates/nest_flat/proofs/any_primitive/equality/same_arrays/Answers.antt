use Rattle.nest_flat.specs.AnyPrimitive.{primitive_layout}
use Rattle.nest_flat.specs.Alike.{lengths-differ}
use Rattle.nest_flat.proofs.any_primitive.equality.same_arrays.Goals as goal

pub returns-then-len : goal.returns-then-len
returns-then-len c = lengths-differ (primitive_layout c.args.a.now) (primitive_layout c.args.b.now) _ _ c.len.ensures c.len-2.ensures c.if-len.true
