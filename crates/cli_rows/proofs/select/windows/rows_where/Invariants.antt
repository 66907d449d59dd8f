use Rattle.std.proofs.Common.{◌≡◌, take}
use Rattle.std.specs.List.{flat_map}
use Rattle.cli_args.specs.ConditionTrees.{condition_tree}
use Rattle.cli_rows.specs.Rows.{rows_in}
use Rattle.cli_rows.proofs.TrueRows.{true_in_array}
use Rattle.cli_rows.proofs.select.windows.rows_where.Given as goal

abbrev pub invariant-loop-array : goal.invariant-loop-array
invariant-loop-array l = flat_map rows_in l.windows.items ≡ flat_map (true_in_array (condition_tree l.condition)) (take l.array-index l.arrays)
