use Rattle.std.proofs.Common.{◌≡◌, ◌*◌, ◌≤◌}
use Rattle.ipc_io.specs.Seeks.{bytes_of}
use Rattle.cli_read.proofs.Counted.{MetadataState}
use Rattle.cli_read.proofs.counting.count_metadata.Given as goal

abbrev pub invariant-loop-k : goal.invariant-loop-k
invariant-loop-k g l =
    let bytes = bytes_of g.R.Seek.stream_position g.R.Seek.stream_bytes in
    record {
      blocks : l.reader.blocks ≡ l.fn.reader.blocks;
      small : l.rows ≤ l.k * 18446744073709551616;
      on : MetadataState l.k l.fn.reader.blocks (bytes l.fn.reader.inner) (bytes l.reader.inner) l.rows;
    }
