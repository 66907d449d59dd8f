use Rattle.std.proofs.Common.{sym, ◌∙◌}
use Rattle.nest_array.specs.Seen.{layout_of}
use Rattle.guide.proofs.Batches.{columns_decide}
use Rattle.guide.proofs.files.orders.are_equal.Goals as goal

pub returns-then-a-b : goal.returns-then-a-b
returns-then-a-b c =
    let d = columns_decide layout_of c.args.a.now.columns.items c.args.b.now.columns.items in
    (λ h. (c.if-a-b.true, d.0 (sym c.eq.ensures ∙ h)), λ h. c.eq.ensures ∙ d.1 h.1)
