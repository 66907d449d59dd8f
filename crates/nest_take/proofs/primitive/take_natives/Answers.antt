use Rattle.std.proofs.Common.{ap, ◌∙◌, map, subst}
use Rattle.nest_model.specs.Accessors.{natives_of, validity_of}
use Rattle.nest_model.specs.Layout.{layout_type}
use Rattle.nest_take.specs.Indices.{AreAt, taken_validity}
use Rattle.nest_take.proofs.At.{at-map}
use Rattle.nest_take.proofs.Flats.{made-ok, primitive-taken}
use Rattle.nest_take.proofs.primitive.take_natives.Goals as goal

pub returns-clause-ok : goal.returns-clause-ok
returns-clause-ok g c =
    let a = c.args.array.now in
    let is = c.args.indices.now in
    let e = ap (map g.T.NativeType.numbers) c.as_slice.ensures ∙ c.values.ensures in
    let p = at-map g.T.NativeType.numbers c.as_slice.result.now is c.in_ok-values.values c.in_ok-values.ensures.ok in
    made-ok c.try_new.result _ a is c.try_new.ensures
    (primitive-taken _ a (layout_type a) _ (natives_of a) _ (validity_of a) _ is c.known.ensures.kind c.requires
    (c.in_ok-data_type.ensures.ok ∙ c.data_type.ensures) (subst (λ z. AreAt z is (map g.T.NativeType.numbers c.in_ok-values.values)) e p)
    (c.in_ok-validity.ensures.ok ∙ ap (λ z. taken_validity z is) c.validity.ensures))
