use Rattle.std.proofs.Common.{◌≡◌, map, take}
use Rattle.std.specs.List.{flat_map}
use Rattle.nest_memory.specs.TypeOf.{field_of}
use Rattle.ipc.specs.Streams.{record_batch_of}
use Rattle.cli_rows.specs.Rows.{rows_in}
use Rattle.cli_rows.specs.SelectedTables.{batch_rows}
use Rattle.cli_rows.proofs.batches.batches_of_windows.Given as goal

abbrev pub invariant-loop-window : goal.invariant-loop-window
invariant-loop-window l = batch_rows (map field_of l.fields) (map record_batch_of l.batches.items) ≡ flat_map rows_in (take l.window-index l.windows)
