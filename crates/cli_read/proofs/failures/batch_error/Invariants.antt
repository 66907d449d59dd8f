use Rattle.std.proofs.Common.{◌≡◌}
use Rattle.cli_read.specs.Readers.{reader_schema, remaining_batches}
use Rattle.cli_read.proofs.FirstErrors.{ReadState}
use Rattle.cli_read.proofs.failures.batch_error.Given as goal

abbrev pub invariant-loop-k : goal.invariant-loop-k
invariant-loop-k g l =
    let left = remaining_batches g.R.Read.remaining g.R.Seek.stream_position g.R.Seek.stream_bytes in
    record {
      schema : reader_schema l.reader ≡ reader_schema l.fn.reader;
      on : ReadState l.k (left l.fn.reader) (left l.reader);
    }
