use Rattle.std.proofs.Common.{◌≤◌, ◌∙◌, ap, arith}
use Rattle.nest_model.specs.Meaning.{len}
use Rattle.listcut_rows.specs.RowText.{rows_text}
use Rattle.listcut_rows.proofs.RowTexts.{all-slots, rows-next}
use Rattle.listcut_rows.proofs.output.format_rows.Goals as goal

pub loop-i-preserved : goal.loop-i-preserved
loop-i-preserved c = rows-next c.args.rows.now c.loop-i.i c.loop-i.out.items c.push_row.new.out.items _ (omega arith) c.loop-i.invariant c.in_ok-push_row.ensures c.in_ok-push.ensures.items

pub returns : goal.returns
returns c =
    let end : len c.args.rows.now ≤ c.loop-i.i = omega arith in
    c.loop-i.invariant ∙ ap rows_text (all-slots c.args.rows.now c.loop-i.i end)
