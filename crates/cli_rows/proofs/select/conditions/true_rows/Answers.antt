use Rattle.std.proofs.Common.{◌<◌, sym, ap, ◌∙◌, arith}
use Rattle.cli_args.specs.ConditionTrees.{condition_tree}
use Rattle.nest_model.specs.Meaning.{len}
use Rattle.nest_array.specs.Seen.{layout_of}
use Rattle.cli_rows.proofs.TrueRows.{all-indices, false-index, true-index}
use Rattle.cli_rows.proofs.select.conditions.true_rows.Goals.{then-is_true_at+in_ok-push, else-is_true_at}
use Rattle.cli_rows.proofs.select.conditions.true_rows.Goals as goal

pub loop-i-preserved : goal.loop-i-preserved
loop-i-preserved c =
    let cond = condition_tree c.args.condition.now in
    let a = layout_of c.args.array.now in
    let i = c.loop-i.i in
    let within : i < len a = omega (arith, c.loop-i-test.true, c.len-i-end.ensures) in
    let truth = sym c.is_true_at.ensures in
    elim c.if-is_true_at.branch [ then-is_true_at+in_ok-push w ↦ ap (λ v. v.items) w.indices-is ∙ true-index cond a i c.loop-i.indices.items w.push.new.self.items within w.in_ok-push.ensures.items (truth ∙ w.if-is_true_at.true) c.loop-i.invariant | else-is_true_at w ↦ ap (λ v. v.items) w.indices-is ∙ false-index cond a i c.loop-i.indices.items within (truth ∙ w.if-is_true_at.false) c.loop-i.invariant ]

pub returns : goal.returns
returns c =
    all-indices (condition_tree c.args.condition.now) (layout_of c.args.array.now) c.loop-i.i c.loop-i.indices.items (omega (arith, c.loop-i-test.false, c.len-i-end.ensures)) c.loop-i.invariant
