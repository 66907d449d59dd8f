use Rattle.std.proofs.Common.{◌≡◌, List, [], Option}
use Rattle.ipc_schema.specs.Schemas.{SchemaModel}
use Rattle.cli_rows.specs.Rows.{RowSlot}
use Rattle.cli_read.specs.Remaining.{Remaining}
use Rattle.cli_read.specs.RowBuffers.{IsInBounds, HasBuffered}
use Rattle.cli_read.specs.Readers.{remaining_batches, reader_schema}
use Rattle.cli_read.proofs.comparison.inputs.read_all.Given as goal

abbrev pub invariant-batches : goal.invariant-batches
invariant-batches g l =
    let of_left = remaining_batches g.R.Read.remaining g.R.Seek.stream_position g.R.Seek.stream_bytes in
    record {
      room : IsInBounds l.side;
      schema : reader_schema l.side.reader ≡ reader_schema l.fn.side.reader;
      on : (t : Option Remaining) (s : SchemaModel) → reader_schema l.fn.side.reader ≡ s → HasBuffered t s [] (of_left l.fn.side.reader) l.fn.side → (done : List RowSlot) × HasBuffered t s done (of_left l.side.reader) l.side;
    }
