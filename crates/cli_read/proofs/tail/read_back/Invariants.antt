use Rattle.std.proofs.Common.{◌≡◌, ◌-◌, length}
use Rattle.cli_read.specs.TailSteps.{rows_reversed, slice_reader_of}
use Rattle.cli_read.proofs.FileTails.{BackState}
use Rattle.cli_read.proofs.tail.read_back.Given as goal

abbrev pub invariant-loop-turn : goal.invariant-loop-turn
invariant-loop-turn g l =
    let reader = slice_reader_of g.R.Seek.stream_position g.R.Seek.stream_bytes in
    record {
      blocks : l.reader.blocks ≡ l.fn.reader.blocks;
      on : BackState l.fn.count (length l.fn.reader.blocks - l.turn) (reader l.fn.reader) (reader l.reader) l.missing (rows_reversed l.found.items);
    }
