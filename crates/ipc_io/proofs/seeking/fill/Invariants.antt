use Rattle.std.proofs.Common.{◌≡◌, ◌+◌, ◌-◌, ◌≤◌, length}
use Rattle.std.specs.Io.KnownBytes.{Keeps}
use Rattle.ipc_io.specs.Seeks.{position_and_bytes, known, IsReadTo}
use Rattle.ipc_io.proofs.seeking.fill.Given as goal

abbrev pub invariant-reads : goal.invariant-reads
invariant-reads g l =
    let position = g.R.Seek.stream_position in
    let bytes = g.R.Seek.stream_bytes in
    record {
      read : IsReadTo (position_and_bytes (position l.fn.reader) (bytes l.fn.reader)) (position_and_bytes (position l.reader) (bytes l.reader)) l.initial.buf.items l.buf.items (l.want - l.left);
      long : length l.buf.items + l.left ≡ length l.initial.buf.items + l.want;
      within : l.left ≤ l.want;
      kept : Keeps (known (position l.fn.reader) (bytes l.fn.reader)) (known (position l.reader) (bytes l.reader));
    }

abbrev pub decreases-reads : goal.decreases-reads
decreases-reads g l = l.left
