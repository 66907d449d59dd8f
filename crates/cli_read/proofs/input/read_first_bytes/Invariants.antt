use Rattle.std.proofs.Common.{◌≡◌, ◌≤◌, ◌-◌, length}
use Rattle.std.specs.Io.KnownBytes.{Consumes}
use Rattle.cli_read.proofs.input.read_first_bytes.Given as goal

abbrev pub invariant-reads : goal.invariant-reads
invariant-reads g l = record {
  bytes : Consumes (g.R.Read.remaining l.fn.reader) (g.R.Read.remaining l.reader) l.head.items;
  few : length l.head.items ≤ 6;
  room : length l.buffer ≡ 6;
}

abbrev pub decreases-reads : goal.decreases-reads
decreases-reads g l = 6 - length l.head.items
