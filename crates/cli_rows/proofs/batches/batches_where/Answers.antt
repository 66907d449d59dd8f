use Rattle.std.proofs.Common.{map}
use Rattle.nest_memory.specs.TypeOf.{field_of}
use Rattle.nest_array.specs.Seen.{layout_of}
use Rattle.cli_rows.specs.Rows.{rows_of}
use Rattle.cli_rows.specs.SelectedTables.{IsRowOf}
use Rattle.cli_rows.proofs.SelectedBatches.{view-each}
use Rattle.cli_rows.proofs.batches.batches_where.Goals as goal

pub push_where-requires : goal.push_where-requires
push_where-requires c =
    view-each (IsRowOf (map field_of c.args.fields.now)) rows_of layout_of c.args.arrays.now c.loop-array.array-index c.array-item.result c.loop-array-test.true c.array-item.is c.requires
