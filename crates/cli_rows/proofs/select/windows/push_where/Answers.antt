use Rattle.std.proofs.Common.{◌<◌, sym, ap, ◌∙◌, arith}
use Rattle.std.specs.List.{flat_map}
use Rattle.cli_args.specs.ConditionTrees.{condition_tree}
use Rattle.nest_model.specs.Meaning.{len}
use Rattle.nest_array.specs.Seen.{layout_of}
use Rattle.cli_rows.specs.Rows.{rows_in}
use Rattle.cli_rows.proofs.TrueRows.{all-true, false-more, true-more}
use Rattle.cli_rows.proofs.select.windows.push_where.Goals.{then-is_true_at+in_ok-push, else-is_true_at}
use Rattle.cli_rows.proofs.select.windows.push_where.Goals as goal

pub loop-i-preserved : goal.loop-i-preserved
loop-i-preserved c =
    let condition = condition_tree c.args.condition.now in
    let a = layout_of c.args.array.now in
    let i = c.loop-i.i in
    let within : i < len a = omega (arith, c.loop-i-test.true, c.len-i-end.ensures) in
    let truth = sym c.is_true_at.ensures in
    let front = flat_map rows_in c.args.windows.now.items in
    elim c.if-is_true_at.branch [ then-is_true_at+in_ok-push w ↦ ap (λ v. flat_map rows_in v.items) w.windows-is ∙ true-more condition a i c.loop-i.windows.items w.push.new.self.items w.one_row.result front within w.one_row.ensures w.in_ok-push.ensures.items (truth ∙ w.if-is_true_at.true) c.loop-i.invariant | else-is_true_at w ↦ ap (λ v. flat_map rows_in v.items) w.windows-is ∙ false-more condition a i (flat_map rows_in c.loop-i.windows.items) front within (truth ∙ w.if-is_true_at.false) c.loop-i.invariant ]

pub returns : goal.returns
returns c =
    all-true (condition_tree c.args.condition.now) (layout_of c.args.array.now) c.loop-i.i (flat_map rows_in c.loop-i.windows.items) (flat_map rows_in c.args.windows.now.items) (omega (arith, c.loop-i-test.false, c.len-i-end.ensures)) c.loop-i.invariant
