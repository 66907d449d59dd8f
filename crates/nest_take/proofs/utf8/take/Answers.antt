use Rattle.std.proofs.Common.{ap, ◌∙◌, subst, sym}
use Rattle.nest_model.specs.Accessors.{bytes_of, offsets_of, validity_of}
use Rattle.nest_model.specs.Layout.{layout_type}
use Rattle.nest_take.specs.Indices.{taken_validity}
use Rattle.nest_take.specs.Taken.{IsTaken}
use Rattle.nest_take.proofs.Pieces.{ends-same, items-same}
use Rattle.nest_take.proofs.SpanRows.{text-taken}
use Rattle.nest_take.proofs.utf8.take.Goals as goal

pub new-requires : goal.new-requires
new-requires g c =
    let a = c.args.array.now in
    let is = c.args.indices.now in
    let x = c.in-Ok.ensures in
    let os = c.offsets-2.ensures in
    let va = c.validity.ensures in
    (text-taken _ a (layout_type a) _ (offsets_of a) (bytes_of a) _ _ (validity_of a) _ is c.known.ensures.fits c.known.ensures.kind c.requires
    (c.in_ok-data_type-in-Ok.ensures.ok ∙ c.data_type.ensures)
    (x.offsets ∙ ends-same _ _ _ _ is os va)
    (x.bytes ∙ items-same _ _ _ _ _ _ is (c.as_slice-bytes.ensures ∙ c.values.ensures) os va)
    (x.validity ∙ ap (λ z. taken_validity z is) va)).0

pub returns-in_ok-data_type-in-Ok-clause-ok : goal.returns-in_ok-data_type-in-Ok-clause-ok
returns-in_ok-data_type-in-Ok-clause-ok g c =
    let a = c.args.array.now in
    let is = c.args.indices.now in
    let x = c.in-Ok.ensures in
    let os = c.offsets-2.ensures in
    let va = c.validity.ensures in
    subst (IsTaken a is) (sym c.new.ensures)
    (text-taken _ a (layout_type a) _ (offsets_of a) (bytes_of a) _ _ (validity_of a) _ is c.known.ensures.fits c.known.ensures.kind c.requires
    (c.in_ok-data_type-in-Ok.ensures.ok ∙ c.data_type.ensures)
    (x.offsets ∙ ends-same _ _ _ _ is os va)
    (x.bytes ∙ items-same _ _ _ _ _ _ is (c.as_slice-bytes.ensures ∙ c.values.ensures) os va)
    (x.validity ∙ ap (λ z. taken_validity z is) va)).1
