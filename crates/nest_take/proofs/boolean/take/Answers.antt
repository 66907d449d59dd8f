use Rattle.std.proofs.Common.{ap, ◌∙◌}
use Rattle.nest_model.specs.Accessors.{bits_of, validity_of}
use Rattle.nest_model.specs.Layout.{layout_type}
use Rattle.nest_take.specs.Indices.{taken_validity}
use Rattle.nest_take.proofs.Flats.{made-ok, boolean-taken}
use Rattle.nest_take.proofs.boolean.take.Goals as goal

pub returns-clause-ok : goal.returns-clause-ok
returns-clause-ok c =
    let a = c.args.array.now in
    let is = c.args.indices.now in
    made-ok c.try_new.result _ a is c.try_new.ensures
    (boolean-taken a (layout_type a) _ c.values.result.now (bits_of a) _ (validity_of a) _ is c.known.ensures.kind c.requires
    (c.in_ok-data_type.ensures.ok ∙ c.data_type.ensures) c.values.ensures c.in_ok-bits.ensures.ok
    (c.in_ok-validity.ensures.ok ∙ ap (λ z. taken_validity z is) c.validity.ensures))
