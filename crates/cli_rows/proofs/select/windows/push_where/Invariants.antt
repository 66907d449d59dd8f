use Rattle.std.proofs.Common.{◌≡◌, ◌++◌, take}
use Rattle.std.specs.List.{filter, flat_map}
use Rattle.cli_args.specs.ConditionTrees.{condition_tree}
use Rattle.nest_array.specs.Seen.{layout_of}
use Rattle.cli_rows.specs.Rows.{rows_in, rows_of}
use Rattle.cli_rows.specs.Conditions.{is_true_in}
use Rattle.cli_rows.proofs.select.windows.push_where.Given as goal

abbrev pub invariant-loop-i : goal.invariant-loop-i
invariant-loop-i l = flat_map rows_in l.windows.items ≡ flat_map rows_in l.initial.windows.items ++ filter (is_true_in (condition_tree l.condition)) (take l.i (rows_of (layout_of l.array)))
