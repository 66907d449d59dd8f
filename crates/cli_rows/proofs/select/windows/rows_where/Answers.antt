use Rattle.std.proofs.Common.{◌∙◌}
use Rattle.std.specs.List.{flat_map}
use Rattle.cli_args.specs.ConditionTrees.{condition_tree}
use Rattle.cli_rows.specs.Rows.{rows_in}
use Rattle.cli_rows.specs.RowLaws.{rows-more}
use Rattle.cli_rows.proofs.TrueRows.{arrays-true, true_in_array}
use Rattle.cli_rows.proofs.select.windows.rows_where.Goals as goal

pub loop-array-preserved : goal.loop-array-preserved
loop-array-preserved c =
    rows-more (true_in_array (condition_tree c.args.condition.now)) c.args.arrays.now c.loop-array.array-index c.array-item.result (flat_map rows_in c.loop-array.windows.items) (flat_map rows_in c.push_where.new.windows.items) c.loop-array-test.true c.array-item.is c.in_ok-push_where.ensures c.loop-array.invariant

pub returns : goal.returns
returns c = c.loop-array.invariant ∙ arrays-true (condition_tree c.args.condition.now) c.args.arrays.now c.loop-array.array-index c.loop-array-test.false
