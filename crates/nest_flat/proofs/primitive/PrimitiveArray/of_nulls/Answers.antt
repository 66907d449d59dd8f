use Rattle.std.proofs.Common.{◌≡◌, ◌∙◌, map, replicate, ap, sym}
use Rattle.nest_memory.specs.TypeOf.{type_of}
use Rattle.nest_model.specs.Layout as layouts
use Rattle.nest_model.specs.NullLayout.{none_valid}
use Rattle.nest_model.specs.MadeNullLaws.{native-zeros}
use Rattle.nest_flat.proofs.primitive.PrimitiveArray.of_nulls.Goals as goal

pub returns-clause-ok : goal.returns-clause-ok
returns-clause-ok g c =
    let k = g.T.NativeType.PRIMITIVE in
    let v = g.T.NativeType.numbers in
    (λ i. layouts.primitive k (c.in_ok-clone.ensures.ok i) (map v (c.in_ok-zeros.ensures.ok i)) (c.in_ok-validity.ensures.ok i))
    ∙ native-zeros v k (type_of c.args.data_type.now) c.args.length c.args.fill c.zero.result c.requires c.zero.ensures
