use Rattle.std.proofs.Common.{ap, ◌∙◌, map}
use Rattle.nest_flat.proofs.Cutting.{map-cut}
use Rattle.nest_flat.proofs.primitive.PrimitiveArray.cut.Goals as goal

pub returns : goal.returns
returns g c =
    let values = ap (map g.T.NativeType.numbers) c.slice.ensures ∙ map-cut g.T.NativeType.numbers c.self.inside.values c.args.o c.args.n in
    rw (← c.self.view_is) cc
