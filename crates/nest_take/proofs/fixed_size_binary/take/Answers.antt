use Rattle.std.proofs.Common.{ap, sym, ◌∙◌, subst}
use Rattle.nest_model.specs.Accessors.{bytes_of, validity_of}
use Rattle.nest_take.specs.Indices.{blocks_at, taken_validity}
use Rattle.nest_take.specs.Taken.{IsTaken}
use Rattle.nest_take.proofs.Nested.{fixed-taken}
use Rattle.nest_take.proofs.fixed_size_binary.take.Goals as goal

pub new-requires : goal.new-requires
new-requires c =
    let a = c.args.array.now in
    let is = c.args.indices.now in
    (fixed-taken a _ c.size-size.result (bytes_of a) _ (validity_of a) _ is c.known.ensures.fits c.known.ensures.kind c.requires
    (c.in_ok-data_type.ensures.ok ∙ c.data_type.ensures) c.size-size.ensures.typed
    (c.in_ok-bytes.ensures.ok ∙ ap (λ z. blocks_at z c.size-size.result is) (c.as_slice.ensures ∙ c.values.ensures))
    (c.in_ok-validity.ensures.ok ∙ ap (λ z. taken_validity z is) c.validity.ensures)).0

pub returns-clause-ok : goal.returns-clause-ok
returns-clause-ok c =
    let a = c.args.array.now in
    let is = c.args.indices.now in
    subst (IsTaken a is) (sym c.new.ensures)
    (fixed-taken a _ c.size-size.result (bytes_of a) _ (validity_of a) _ is c.known.ensures.fits c.known.ensures.kind c.requires
    (c.in_ok-data_type.ensures.ok ∙ c.data_type.ensures) c.size-size.ensures.typed
    (c.in_ok-bytes.ensures.ok ∙ ap (λ z. blocks_at z c.size-size.result is) (c.as_slice.ensures ∙ c.values.ensures))
    (c.in_ok-validity.ensures.ok ∙ ap (λ z. taken_validity z is) c.validity.ensures)).1
