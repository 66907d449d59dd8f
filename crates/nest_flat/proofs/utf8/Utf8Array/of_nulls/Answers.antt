use Rattle.std.proofs.Common.{◌≡◌, ◌∙◌, ap, sym}
use Rattle.std.specs.Prelude.{◌+◌, None}
use Rattle.nest_memory.specs.TypeOf.{type_of}
use Rattle.nest_model.specs.Layout as layouts
use Rattle.nest_model.specs.NullLayout.{null_array}
use Rattle.nest_model.specs.NullKinds.{text-parts, text-first_error}
use Rattle.nest_model.specs.MadeNullLaws.{not-past, top-fits}
use Rattle.nest_flat.proofs.utf8.Utf8Array.of_nulls.Goals as goal

pub no_bytes-requires : goal.no_bytes-requires
no_bytes-requires g c =
    let t = type_of c.args.data_type.now in
    not-past (c.args.length + 1) None (sym (text-first_error g.O.Offset.IS_LARGE t c.args.length c.args.fill c.requires.kind) ∙ c.requires.unrefused)

pub returns-clause-ok : goal.returns-clause-ok
returns-clause-ok g c =
    let t = type_of c.args.data_type.now in
    (λ i. layouts.utf8 g.O.Offset.IS_LARGE (c.in_ok-clone.ensures.ok i) (c.in_ok-offsets.ensures.ok.0 i) (c.in_ok-offsets.ensures.ok.1 i) (c.in_ok-validity.ensures.ok i))
    ∙ sym (text-parts g.O.Offset.IS_LARGE t c.args.length c.args.fill c.requires.kind)

pub invariant_of-result : goal.invariant_of-result
invariant_of-result g c =
    top-fits (type_of c.args.data_type.now) c.args.length c.args.fill _ c.requires.valid c.requires.unrefused (returns-clause-ok g c)
