use Rattle.std.proofs.Common.{sym, ◌∙◌, subst}
use Rattle.nest_model.specs.Decide.{pass-no_error}
use Rattle.nest_model.specs.Fits.{checks}
use Rattle.nest_memory.specs.TypeOf.{type_of}
use Rattle.nest_model.specs.Layout as layouts
use Rattle.nest_model.specs.Layout.{layout_type}
use Rattle.nest_concat.specs.Joined.{IsJoined}
use Rattle.nest_concat.proofs.Flats.{boolean-joined}
use Rattle.nest_concat.proofs.Made.{boolean-kind, of-kind}
use Rattle.nest_concat.proofs.LaidParts.{boolean-laid, boolean-room, length-room}
use Rattle.nest_concat.proofs.boolean.join.Goals as goal

pub booleans-requires : goal.booleans-requires
booleans-requires c =
    let a = c.args.array.now in
    record { kind = of-kind (layout_type a) _ c.args.windows.now c.requires.within (boolean-kind a _ _ _ c.known.ensures.fits c.known.ensures.kind); total = c.requires.total }

pub returns-in-Ok-clause-ok : goal.returns-in-Ok-clause-ok
returns-in-Ok-clause-ok c =
    let a = c.args.array.now in
    let ws = c.args.windows.now in
    subst (IsJoined (layout_type a) ws) (sym c.in-Ok.ensures.1)
    (boolean-joined (layout_type a) _ ws _ _ c.requires.within (boolean-kind a _ _ _ c.known.ensures.fits c.known.ensures.kind) (c.in_ok-data_type.ensures.ok ∙ c.data_type.ensures) c.in_ok-values.ensures.ok c.in_ok-validity.ensures.ok).1

pub returns-in-Err-clause-err : goal.returns-in-Err-clause-err
returns-in-Err-clause-err c =
    let a = c.args.array.now in
    let ws = c.args.windows.now in
    absurd (pass-no_error (checks (layouts.boolean (type_of c.in_ok-data_type.data_type) c.in_ok-values.values c.in_ok-validity.validity)) c.in-Err.error
    (boolean-joined (layout_type a) _ ws _ _ c.requires.within (boolean-kind a _ _ _ c.known.ensures.fits c.known.ensures.kind) (c.in_ok-data_type.ensures.ok ∙ c.data_type.ensures) c.in_ok-values.ensures.ok c.in_ok-validity.ensures.ok).0
    c.in-Err.ensures)

pub returns-in-Ok-clause-laid : goal.returns-in-Ok-clause-laid
returns-in-Ok-clause-laid c =
    let a = c.args.array.now in
    let ws = c.args.windows.now in
    c.in-Ok.ensures.1 ∙ boolean-laid a _ _ _ _ _ _ ws c.known.ensures.kind (c.in_ok-data_type.ensures.ok ∙ c.data_type.ensures) c.in_ok-values.ensures.ok c.in_ok-validity.ensures.ok

pub returns-in-Ok-clause-room : goal.returns-in-Ok-clause-room
returns-in-Ok-clause-room c =
    let a = c.args.array.now in
    let ws = c.args.windows.now in
    boolean-room a _ _ _ ws c.known.ensures.kind (length-room ws _ c.requires.total c.ranges.total.fits)
