use Rattle.std.proofs.Common.{refl, sym, ◌∙◌, subst}
use Rattle.nest_model.specs.FactLaws.{fixed_size_binary-facts}
use Rattle.nest_model.specs.Array.{TopFits}
use Rattle.nest_model.specs.Accessors.{bytes_of, validity_of}
use Rattle.nest_model.specs.Layout.{layout_type}
use Rattle.nest_concat.specs.Joined.{IsJoined}
use Rattle.nest_concat.proofs.Flats.{fixed-joined}
use Rattle.nest_concat.proofs.Made.{fixed-kind}
use Rattle.nest_concat.proofs.LaidParts.{fixed-laid, fixed-room, length-room}
use Rattle.nest_concat.proofs.fixed_size_binary.join.Goals as goal

pub new-requires : goal.new-requires
new-requires c =
    let a = c.args.array.now in
    let z = (fixed_size_binary-facts (layout_type a) (bytes_of a) (validity_of a) (subst TopFits c.known.ensures.kind c.known.ensures.fits)).sized in
    (fixed-joined (layout_type a) _ c.args.windows.now _ _ _ c.requires.within (fixed-kind a _ _ _ c.known.ensures.fits c.known.ensures.kind) z (c.in_ok-data_type.ensures.ok ∙ c.data_type.ensures) refl c.in_ok-bytes.ensures.ok c.in_ok-validity.ensures.ok).0

pub returns-clause-ok : goal.returns-clause-ok
returns-clause-ok c =
    let a = c.args.array.now in
    let ws = c.args.windows.now in
    let z = (fixed_size_binary-facts (layout_type a) (bytes_of a) (validity_of a) (subst TopFits c.known.ensures.kind c.known.ensures.fits)).sized in
    subst (IsJoined (layout_type a) ws) (sym c.new.ensures)
    (fixed-joined (layout_type a) _ ws _ _ _ c.requires.within (fixed-kind a _ _ _ c.known.ensures.fits c.known.ensures.kind) z (c.in_ok-data_type.ensures.ok ∙ c.data_type.ensures) refl c.in_ok-bytes.ensures.ok c.in_ok-validity.ensures.ok).1

pub returns-clause-laid : goal.returns-clause-laid
returns-clause-laid c =
    let a = c.args.array.now in
    let ws = c.args.windows.now in
    c.new.ensures ∙ fixed-laid a _ _ _ _ _ _ ws c.known.ensures.kind (c.in_ok-data_type.ensures.ok ∙ c.data_type.ensures) c.in_ok-bytes.ensures.ok c.in_ok-validity.ensures.ok

pub returns-clause-room : goal.returns-clause-room
returns-clause-room c =
    let a = c.args.array.now in
    let ws = c.args.windows.now in
    fixed-room a _ _ _ ws c.known.ensures.kind (length-room ws _ c.requires.total c.ranges.total.fits)
