use Rattle.std.proofs.Common.{◌≡◌, map, take}
use Rattle.std.specs.List.{filter, flat_map}
use Rattle.nest_memory.specs.TypeOf.{field_of}
use Rattle.nest_array.specs.Seen.{layout_of}
use Rattle.cli_args.specs.ConditionTrees.{condition_tree}
use Rattle.ipc.specs.Streams.{record_batch_of}
use Rattle.cli_rows.specs.Rows.{rows_of}
use Rattle.cli_rows.specs.Conditions.{is_true_in}
use Rattle.cli_rows.specs.SelectedTables.{batch_rows}
use Rattle.cli_rows.proofs.batches.batches_where.Given as goal

abbrev pub invariant-loop-array : goal.invariant-loop-array
invariant-loop-array l =
    batch_rows (map field_of l.fields) (map record_batch_of l.batches.items) ≡ filter (is_true_in (condition_tree l.condition)) (flat_map rows_of (map layout_of (take l.array-index l.arrays)))
