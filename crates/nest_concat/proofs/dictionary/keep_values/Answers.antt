use Rattle.std.proofs.Common.{◌∙◌, ap, false, sym, subst}
use Rattle.nest_memory.specs.declared.datatypes.physical_type.PhysicalType.TheVariants as physical
use Rattle.nest_model.specs.Accessors.{key_type_of}
use Rattle.nest_model.specs.Layout.{layout_type}
use Rattle.nest_array.specs.Keys.{keyed_by}
use Rattle.nest_array.specs.SeenKeys.{keys_layout}
use Rattle.nest_concat.specs.Joined.{AreWithin}
use Rattle.nest_concat.specs.Lookups.{AreJoinedKeys}
use Rattle.nest_concat.proofs.Keyed.{keyed-kind, kept-joined}
use Rattle.nest_concat.proofs.Made.{of-kind, ok-joined}
use Rattle.nest_concat.specs.Laid.{laid_keys}
use Rattle.nest_concat.proofs.LaidParts.{kept-laid, kept-room, length-room, ok-always, ok-laid}
use Rattle.nest_concat.proofs.dictionary.keep_values.Goals as goal

pub joined-requires : goal.joined-requires
joined-requires c =
    let a = c.args.array.now in
    let ws = c.args.windows.now in
    let p = keyed-kind a _ _ _ c.known.ensures.fits c.known.ensures.kind ∙ ap (λ z. physical.Dictionary (keyed_by (key_type_of z))) (sym c.keys.ensures) in
    record { within = subst (λ z. AreWithin (layout_type z) ws) c.requires.first c.requires.within; kind = of-kind (layout_type a) _ ws c.requires.within p; total = c.requires.total }

pub array_of-requires : goal.array_of-requires
array_of-requires c =
    let a = c.args.array.now in
    let ws = c.args.windows.now in
    let g = subst (λ z. AreJoinedKeys false z ws (keys_layout c.in_ok-keys.keys)) c.keys.ensures c.in_ok-keys.ensures.ok in
    (kept-joined a _ _ _ _ _ ws c.known.ensures.fits c.known.ensures.kind c.requires.within c.data_type.ensures g c.requires.same (c.in-Ok.ensures.ok ∙ c.values.ensures)).0

pub returns-in-Ok-clause-ok : goal.returns-in-Ok-clause-ok
returns-in-Ok-clause-ok c =
    let a = c.args.array.now in
    let ws = c.args.windows.now in
    let g = subst (λ z. AreJoinedKeys false z ws (keys_layout c.in_ok-keys.keys)) c.keys.ensures c.in_ok-keys.ensures.ok in
    ok-joined c.array_of.result (layout_type a) _ ws c.array_of.ensures.ok
    (kept-joined a _ _ _ _ _ ws c.known.ensures.fits c.known.ensures.kind c.requires.within c.data_type.ensures g c.requires.same (c.in-Ok.ensures.ok ∙ c.values.ensures)).1

pub returns-in-Ok-clause-laid : goal.returns-in-Ok-clause-laid
returns-in-Ok-clause-laid c =
    let a = c.args.array.now in
    let ws = c.args.windows.now in
    ok-laid c.array_of.result _ _ c.array_of.ensures.ok
    (kept-laid a _ _ _ _ _ _ ws c.known.ensures.kind c.data_type.ensures (c.in_ok-keys.ensures.laid ∙ ap (λ z. laid_keys false z ws) c.keys.ensures) c.requires.same (c.in-Ok.ensures.ok ∙ c.values.ensures))

pub returns-in-Ok-clause-room : goal.returns-in-Ok-clause-room
returns-in-Ok-clause-room c =
    let a = c.args.array.now in
    let ws = c.args.windows.now in
    ok-always c.array_of.result _ (kept-room a _ _ _ ws c.known.ensures.kind (length-room ws _ c.requires.total c.ranges.total.fits) c.requires.same)
