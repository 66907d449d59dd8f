use Rattle.std.proofs.Common.{sym, ◌∙◌}
use Rattle.nest_model.specs.SameArrayLaws.{same-len}
use Rattle.nest_array.proofs.equal.whole.same_arrays_counted.Goals as goal

pub returns-then-not-same_shape-clause-same : goal.returns-then-not-same_shape-clause-same
returns-then-not-same_shape-clause-same g c = (
  λ t. cc,
  λ e. sym c.if-not-same_shape.true ∙ c.same_shape.ensures.1 (c.data_type.ensures ∙ e.0 ∙ sym c.data_type-2.ensures, c.len.ensures ∙ same-len (g.A.Array.layout c.args.x.now) (g.A.Array.layout c.args.y.now) e ∙ sym c.len-2.ensures),
)

pub returns-clause-none : goal.returns-clause-none
returns-clause-none g c d =
    let h = c.same_shape.ensures.0 c.if-not-same_shape.false in
    absurd (d (sym c.data_type.ensures ∙ h.0 ∙ c.data_type-2.ensures) (sym c.len.ensures ∙ h.1 ∙ c.len-2.ensures))
