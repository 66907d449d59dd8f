use Rattle.std.proofs.Common.{◌∙◌, ap}
use Rattle.nest_flat.specs.AnyPrimitive.{primitive_layout}
use Rattle.nest_memory.specs.declared.datatypes.physical_type.PhysicalType.TheVariants as physical
use Rattle.nest_model.specs.Accessors.{natives_of, validity_of}
use Rattle.nest_model.specs.Layout.{layout_type, primitive}
use Rattle.nest_concat.proofs.Flats.{primitive-joined}
use Rattle.nest_concat.proofs.LaidParts.{length-room, made-laid, ok-always, primitive-laid, primitive-room}
use Rattle.nest_concat.proofs.Made.{made-memory, made-ok, of-kind}
use Rattle.nest_concat.proofs.primitive.join_natives.Goals as goal

pub values-requires : goal.values-requires
values-requires g c =
    let a = primitive_layout c.args.array.now in
    record { kind = of-kind (layout_type a) _ c.args.windows.now c.requires.within (c.known.ensures.kind ∙ ap (λ q. physical.Primitive q) c.requires.kind) }

pub returns-clause-ok : goal.returns-clause-ok
returns-clause-ok g c =
    let t = layout_type (primitive_layout c.args.array.now) in
    let ws = c.args.windows.now in
    let p = c.known.ensures.kind ∙ ap (λ q. physical.Primitive q) c.requires.kind in
    made-ok c.try_new.result t _ ws c.try_new.ensures (primitive-joined _ t _ ws _ _ c.requires.within p (c.in_ok-data_type.ensures.ok ∙ c.data_type.ensures) c.in_ok-values.ensures.ok c.in_ok-validity.ensures.ok).1

pub returns-clause-err : goal.returns-clause-err
returns-clause-err g c =
    let t = layout_type (primitive_layout c.args.array.now) in
    let ws = c.args.windows.now in
    let p = c.known.ensures.kind ∙ ap (λ q. physical.Primitive q) c.requires.kind in
    made-memory c.try_new.result _ t ws c.try_new.ensures (primitive-joined _ t _ ws _ _ c.requires.within p (c.in_ok-data_type.ensures.ok ∙ c.data_type.ensures) c.in_ok-values.ensures.ok c.in_ok-validity.ensures.ok)

pub returns-clause-laid : goal.returns-clause-laid
returns-clause-laid g c =
    let a = primitive_layout c.args.array.now in
    let ws = c.args.windows.now in
    let k = c.known.ensures.parts ∙ ap (λ q. primitive q (layout_type a) (natives_of a) (validity_of a)) c.requires.kind in
    made-laid c.try_new.result _ _ c.try_new.ensures (primitive-laid g.T.NativeType.PRIMITIVE a _ _ _ _ _ _ ws k (c.in_ok-data_type.ensures.ok ∙ c.data_type.ensures) c.in_ok-values.ensures.ok c.in_ok-validity.ensures.ok)

pub returns-clause-room : goal.returns-clause-room
returns-clause-room g c =
    let a = primitive_layout c.args.array.now in
    let ws = c.args.windows.now in
    let k = c.known.ensures.parts ∙ ap (λ q. primitive q (layout_type a) (natives_of a) (validity_of a)) c.requires.kind in
    ok-always c.try_new.result _ (primitive-room g.T.NativeType.PRIMITIVE a _ _ _ ws k (length-room ws _ c.requires.total c.ranges.total.fits))
