use Rattle.std.proofs.Common.{◌≡◌, ◌*◌, ◌≤◌}
use Rattle.cli_read.specs.Readers.{reader_schema, remaining_batches}
use Rattle.cli_read.proofs.Counted.{CountState}
use Rattle.cli_read.proofs.counting.count_batches.Given as goal

abbrev pub invariant-loop-k : goal.invariant-loop-k
invariant-loop-k g l =
    let left = remaining_batches g.R.Read.remaining g.R.Seek.stream_position g.R.Seek.stream_bytes in
    record {
      schema : reader_schema l.reader ≡ reader_schema l.fn.reader;
      small : l.rows ≤ l.k * 18446744073709551616;
      on : CountState l.k (left l.fn.reader) (left l.reader) l.rows;
    }
