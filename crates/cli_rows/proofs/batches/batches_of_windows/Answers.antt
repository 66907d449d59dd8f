use Rattle.std.proofs.Common.{map}
use Rattle.nest_memory.specs.TypeOf.{field_of}
use Rattle.cli_rows.specs.Rows.{rows_in}
use Rattle.cli_rows.specs.SelectedTables.{IsRowOf}
use Rattle.cli_rows.proofs.SelectedBatches.{piece-each}
use Rattle.cli_rows.proofs.batches.batches_of_windows.Goals as goal

pub push_window-requires : goal.push_window-requires
push_window-requires c =
    piece-each (IsRowOf (map field_of c.args.fields.now)) rows_in c.args.windows.now c.loop-window.window-index c.window-item.result c.loop-window-test.true c.window-item.is c.requires
