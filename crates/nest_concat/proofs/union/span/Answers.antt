use Rattle.std.proofs.Common.{ap, sym, ◌∙◌, arith}
use Rattle.nest_model.specs.Layout.{count_layouts}
use Rattle.nest_concat.specs.Parts.{behind, lowest, picks_in}
use Rattle.nest_concat.proofs.Children.{count-of}
use Rattle.nest_concat.proofs.Picked.{picks-no, picks-yes}
use Rattle.nest_concat.proofs.union.span.Goals.{then-field-f, else-field-f}
use Rattle.nest_concat.proofs.union.span.Goals as goal

pub child-requires : goal.child-requires
child-requires c = omega (arith, count-of c.fields-fields.result.now, ap count_layouts c.fields-fields.ensures, c.requires.field)

pub loop-i-preserved : goal.loop-i-preserved
loop-i-preserved c =
    let a = c.args.array.now in
    let o = c.args.o in
    let i = c.loop-i.i in
    let f = c.args.f in
    let g = c.index-field.result.0 in
    let q = c.index-field.result.1 in
    let ps = picks_in f a o i in
    let h = c.loop-i.invariant in
    elim c.if-field-f.branch [
      | then-field-f w ↦
          let e = picks-yes f g q a o i c.index-field.ensures.field c.index-field.ensures.place w.if-field-f.true in
          record {
            first = ap (λ s. s.0) w.span-is ∙ w.widened-span.ensures.first ps h.first h.end ∙ sym (ap lowest e);
            end = ap (λ s. s.1) w.span-is ∙ w.widened-span.ensures.end ps h.end ∙ sym (ap behind e);
          }
      | else-field-f w ↦
          let e = picks-no f g a o i c.index-field.ensures.field w.if-field-f.false in
          record { first = ap (λ s. s.0) w.span-is ∙ h.first ∙ sym (ap lowest e); end = ap (λ s. s.1) w.span-is ∙ h.end ∙ sym (ap behind e) }
    ]
