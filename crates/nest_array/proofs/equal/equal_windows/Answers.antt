use Rattle.std.proofs.Common.{ap, sym, ◌∙◌}
use Rattle.nest_model.specs.Layout.{layout_type}
use Rattle.nest_flat.specs.BareSlots.{same-along}
use Rattle.nest_array.proofs.SameRows.{window-run, windows-length}
use Rattle.nest_array.proofs.equal.equal_windows.Goals as goal

pub returns-then-not-same_shape : goal.returns-then-not-same_shape
returns-then-not-same_shape c =
    let t = c.data_type.ensures ∙ ap layout_type c.array-a.ensures in
    let u = c.data_type-2.ensures ∙ ap layout_type c.array-b.ensures in (
      λ r. cc,
      λ e. sym c.if-not-same_shape.true
          ∙ c.same_shape.ensures.1 (t ∙ e.0 ∙ sym u, c.len.ensures ∙ windows-length c.args.x.now c.args.y.now c.known.ensures c.known-2.ensures e.1 ∙ sym c.len-2.ensures),
    )

pub returns : goal.returns
returns c =
    let h = c.same_shape.ensures.0 c.if-not-same_shape.false in
    let t = ap layout_type (sym c.array-a.ensures) ∙ sym c.data_type.ensures ∙ h.0 ∙ c.data_type-2.ensures ∙ ap layout_type c.array-b.ensures in
    let s =
    same-along _ _ _ _ _ (window-run c.args.x.now _ _ _ c.array-a.ensures c.offset.ensures c.len-3.ensures c.known.ensures)
    (window-run c.args.y.now _ _ _ c.array-b.ensures c.offset-2.ensures (c.len-3.ensures ∙ sym c.len.ensures ∙ h.1 ∙ c.len-2.ensures) c.known-2.ensures) c.same_run.ensures.same in
    (λ r. (t, s.0 r), λ h. s.1 h.1)
