use Rattle.std.proofs.Common.{◌≡◌, ◌++◌, length, map}
use Rattle.std.specs.List.{flat_map}
use Rattle.std.specs.Vec.Iter.{into_iter_items, into_iter_len}
use Rattle.nest_memory.specs.TypeOf.{field_of}
use Rattle.nest_array.specs.Seen.{layout_of}
use Rattle.ipc.specs.Streams.{record_batch_of}
use Rattle.cli_rows.specs.Rows.{rows_of}
use Rattle.cli_rows.specs.SelectedTables.{batch_rows}
use Rattle.cli_rows.proofs.batches.batches_of_arrays.Given as goal

abbrev pub invariant-loop-array : goal.invariant-loop-array
invariant-loop-array l =
    (l.yielded ++ into_iter_items l.array-iterator ≡ into_iter_items l.initial.array-iterator)
    × (batch_rows (map field_of l.fields) (map record_batch_of l.batches.items) ≡ flat_map rows_of (map layout_of l.yielded))
    × (into_iter_len l.array-iterator ≡ length (into_iter_items l.array-iterator))
