use Rattle.std.proofs.Common.{◌∙◌}
use Rattle.nest_array.specs.Seen.{layout_of}
use Rattle.cli_rows.specs.Rows.{rows_in, rows_of}
use Rattle.cli_rows.specs.RowLaws.{all-behind, flat-more, whole-rows}
use Rattle.cli_rows.proofs.select.windows.all_rows.Goals as goal

pub loop-array-preserved : goal.loop-array-preserved
loop-array-preserved c =
    let x = c.array-item.result in
    flat-more rows_in (λ a. rows_of (layout_of a)) c.args.arrays.now c.loop-array.array-index x c.loop-array.windows.items c.push.new.self.items c.of.result c.loop-array-test.true c.array-item.is c.in_ok-push.ensures.items
    (whole-rows (layout_of x) c.of.result c.of.ensures.parts) c.loop-array.invariant

pub returns : goal.returns
returns c = c.loop-array.invariant ∙ all-behind c.args.arrays.now c.loop-array.array-index c.loop-array-test.false
