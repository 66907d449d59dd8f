use Rattle.std.proofs.Common.{refl, subst}
use Rattle.nest_model.specs.Array.{TopFits}
use Rattle.nest_model.specs.Layout.{layout_type}
use Rattle.nest_concat.proofs.Flats.{null-joined}
use Rattle.nest_concat.proofs.Made.{ok-joined}
use Rattle.nest_concat.proofs.LaidParts.{length-room, null-laid, null-room, ok-always, ok-laid}
use Rattle.nest_concat.proofs.null.join.Goals as goal

pub returns-clause-ok : goal.returns-clause-ok
returns-clause-ok c =
    let t = layout_type c.args.array.now in
    let ws = c.args.windows.now in
    let p = (subst TopFits c.known.ensures.kind c.known.ensures.fits).1.0 in
    ok-joined c.of_len.result t _ ws c.of_len.ensures.ok (null-joined t t ws c.args.total c.requires.within p refl c.requires.total).1

pub returns-clause-laid : goal.returns-clause-laid
returns-clause-laid c =
    let a = c.args.array.now in
    let ws = c.args.windows.now in
    ok-laid c.of_len.result _ _ c.of_len.ensures.ok (null-laid a _ _ _ ws c.known.ensures.kind c.requires.total)

pub returns-clause-room : goal.returns-clause-room
returns-clause-room c =
    let a = c.args.array.now in
    let ws = c.args.windows.now in
    ok-always c.of_len.result _ (null-room a _ _ ws c.known.ensures.kind (length-room ws _ c.requires.total c.ranges.total.fits))
