use Rattle.std.proofs.Common.{◌≡◌, take}
use Rattle.cli_args.specs.ConditionTrees.{condition_tree}
use Rattle.nest_array.specs.Seen.{layout_of}
use Rattle.cli_rows.specs.Conditions.{true_indices}
use Rattle.cli_rows.specs.Rows.{rows_of}
use Rattle.cli_rows.proofs.select.conditions.true_rows.Given as goal

abbrev pub invariant-loop-i : goal.invariant-loop-i
invariant-loop-i l = l.indices.items ≡ true_indices (condition_tree l.condition) (take l.i (rows_of (layout_of l.array)))
