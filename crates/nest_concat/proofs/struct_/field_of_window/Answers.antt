use Rattle.std.proofs.Common.{ap, ◌∙◌, arith}
use Rattle.nest_array.specs.Seen.{layout_of}
use Rattle.nest_array.specs.WindowParts.{window_parts}
use Rattle.nest_model.specs.Accessors.{child_at}
use Rattle.nest_model.specs.Layout.{count_layouts}
use Rattle.nest_model.specs.Meaning.{len}
use Rattle.nest_concat.proofs.Children.{count-of}
use Rattle.nest_concat.proofs.Records.{field-there, record-field}
use Rattle.nest_concat.proofs.struct_.field_of_window.Goals as goal

pub child-child-requires : goal.child-child-requires
child-child-requires c =
    let r = field-there c.args.window.now c.in-Some.array.now c.args.f (c.in-Some.ensures.1 ∙ c.array.ensures) c.known-2.ensures.fits c.known.ensures c.requires.kind c.requires.field in
    omega (arith, r.0, count-of c.values.result.now, ap count_layouts c.values.ensures)

pub new-requires : goal.new-requires
new-requires c =
    let r = field-there c.args.window.now c.in-Some.array.now c.args.f (c.in-Some.ensures.1 ∙ c.array.ensures) c.known-2.ensures.fits c.known.ensures c.requires.kind c.requires.field in
    omega (arith, r.1, ap len (c.child-child.ensures ∙ ap (λ z. child_at z c.args.f) c.values.ensures), c.offset.ensures, c.len.ensures)

pub returns-clause-parts : goal.returns-clause-parts
returns-clause-parts c =
    let w = c.args.window.now in
    let d = layout_of c.child-child.result.now in
    c.new.ensures.parts
    ∙ ap (λ n. window_parts d n c.len.result) c.offset.ensures
    ∙ ap (window_parts d w.offset) c.len.ensures
    ∙ record-field w c.in-Some.array.now d c.args.f (c.in-Some.ensures.1 ∙ c.array.ensures) c.known-2.ensures.fits c.known.ensures c.requires.kind (c.child-child.ensures ∙ ap (λ z. child_at z c.args.f) c.values.ensures)
