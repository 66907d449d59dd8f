use Rattle.std.proofs.Common.{◌≡◌, Option, false}
use Rattle.ipc_schema.specs.Schemas.{SchemaModel}
use Rattle.cli_read.specs.Remaining.{Remaining}
use Rattle.cli_read.specs.Readers.{remaining_batches, reader_schema}
use Rattle.cli_read.specs.TakeStates.{IsTakeState}
use Rattle.cli_read.proofs.by_index.rows.take_all.Given as goal

abbrev pub invariant-loop-k : goal.invariant-loop-k
invariant-loop-k g l =
    let of_ = remaining_batches g.R.Read.remaining g.R.Seek.stream_position g.R.Seek.stream_bytes in
    record {
      schema : reader_schema l.reader ≡ reader_schema l.fn.reader;
      same : l.state.wanted ≡ l.fn.state.wanted;
      on : (t : Option Remaining) (s : SchemaModel) → reader_schema l.fn.reader ≡ s → IsTakeState t s false 0 (of_ l.fn.reader) l.fn.state → IsTakeState t s false l.k (of_ l.reader) l.state;
    }
