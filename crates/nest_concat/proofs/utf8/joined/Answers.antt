use Rattle.std.proofs.Common.{sym, ◌∙◌, subst, arith}
use Rattle.nest_model.specs.Layout.{layout_type}
use Rattle.nest_concat.specs.Joined.{IsJoined}
use Rattle.nest_concat.proofs.Rows.{text-joined}
use Rattle.nest_concat.proofs.Made.{of-kind, text-kind}
use Rattle.nest_concat.proofs.LaidParts.{offsets-room, text-laid}
use Rattle.nest_concat.proofs.utf8.joined.Goals as goal

pub count-requires : goal.count-requires
count-requires g c =
    let a = c.args.array.now in
    let ws = c.args.windows.now in
    let p = text-kind _ a _ _ _ _ c.known.ensures.fits c.known.ensures.kind in
    record { kind = of-kind (layout_type a) _ ws c.requires.within (p ∙ sym c.requires.kind) }

pub offsets-requires : goal.offsets-requires
offsets-requires g c =
    let a = c.args.array.now in
    let ws = c.args.windows.now in
    let p = text-kind _ a _ _ _ _ c.known.ensures.fits c.known.ensures.kind in
    record { kind = of-kind (layout_type a) _ ws c.requires.within (p ∙ sym c.requires.kind); room = omega (arith, c.in_ok-count.ensures.0, c.in_ok-count.ensures.1) }

pub bytes-requires : goal.bytes-requires
bytes-requires g c =
    let a = c.args.array.now in
    let ws = c.args.windows.now in
    let p = text-kind _ a _ _ _ _ c.known.ensures.fits c.known.ensures.kind in
    record { kind = of-kind (layout_type a) _ ws c.requires.within (p ∙ sym c.requires.kind) }

pub new-requires : goal.new-requires
new-requires g c =
    let a = c.args.array.now in
    let ws = c.args.windows.now in
    let p = text-kind _ a _ _ _ _ c.known.ensures.fits c.known.ensures.kind in
    (text-joined _ (layout_type a) _ ws _ _ _ c.requires.within p (c.in_ok-data_type.ensures.ok ∙ c.data_type.ensures) c.in_ok-offsets.ensures.ok c.in_ok-bytes.ensures.ok c.in_ok-validity.ensures.ok).0

pub returns-clause-ok : goal.returns-clause-ok
returns-clause-ok g c =
    let a = c.args.array.now in
    let ws = c.args.windows.now in
    let p = text-kind _ a _ _ _ _ c.known.ensures.fits c.known.ensures.kind in
    subst (IsJoined (layout_type a) ws) (sym c.new.ensures) (text-joined _ (layout_type a) _ ws _ _ _ c.requires.within p (c.in_ok-data_type.ensures.ok ∙ c.data_type.ensures) c.in_ok-offsets.ensures.ok c.in_ok-bytes.ensures.ok c.in_ok-validity.ensures.ok).1

pub returns-clause-laid : goal.returns-clause-laid
returns-clause-laid g c =
    let a = c.args.array.now in
    let ws = c.args.windows.now in
    c.new.ensures ∙ text-laid _ a _ _ _ _ _ _ _ _ ws c.known.ensures.kind (c.in_ok-data_type.ensures.ok ∙ c.data_type.ensures) c.in_ok-offsets.ensures.ok c.in_ok-bytes.ensures.ok c.in_ok-validity.ensures.ok

pub returns-clause-room : goal.returns-clause-room
returns-clause-room g c =
    let ws = c.args.windows.now in
    offsets-room _ ws _ _ c.in_ok-count.ensures.0 c.in_ok-count.ensures.1 g.met.O.Offset.largest_is
