use Rattle.std.proofs.Common.{◌≡◌, [], Option}
use Rattle.ipc_schema.specs.Schemas.{SchemaModel}
use Rattle.cli_read.specs.Remaining.{Remaining}
use Rattle.cli_read.specs.RowBuffers.{BothBuffered, IsInBounds, HasBuffered}
use Rattle.cli_read.specs.Readers.{remaining_batches, reader_schema}
use Rattle.cli_read.proofs.comparison.inputs.compare_all.Given as goal

abbrev pub invariant-steps : goal.invariant-steps
invariant-steps g l =
    let of_left = remaining_batches g.R.Read.remaining g.R.Seek.stream_position g.R.Seek.stream_bytes in
    let of_right = remaining_batches g.S.Read.remaining g.S.Seek.stream_position g.S.Seek.stream_bytes in
    record {
      left_room : IsInBounds l.left;
      right_room : IsInBounds l.right;
      left_schema : reader_schema l.left.reader ≡ reader_schema l.fn.left.reader;
      right_schema : reader_schema l.right.reader ≡ reader_schema l.fn.right.reader;
      on : (t u : Option Remaining) (s : SchemaModel) → reader_schema l.fn.left.reader ≡ s → reader_schema l.fn.right.reader ≡ s → HasBuffered t s [] (of_left l.fn.left.reader) l.fn.left → HasBuffered u s [] (of_right l.fn.right.reader) l.fn.right
          → BothBuffered t u s l.rows (of_left l.left.reader) (of_right l.right.reader) l.left l.right;
    }
