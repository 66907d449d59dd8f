use Rattle.std.proofs.Common.{ap, sym, ◌∙◌, map}
use Rattle.std.proofs.lemmas.List.{take-map}
use Rattle.nest_flat.proofs.primitive.mutable.MutablePrimitiveArray.cut.Goals as goal

pub returns : goal.returns
returns g c =
    let num = g.T.NativeType.numbers in
    let values = ap (map num) c.truncate.ensures.items ∙ sym (take-map num c.args.n c.self.inside.values.items) in
    rw (← c.self.view_is) cc
