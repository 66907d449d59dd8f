use Rattle.std.proofs.Common.{◌≡◌, length}
use Rattle.ipc_io.specs.Seeks.{position_and_bytes}
use Rattle.ipc_io.proofs.Ranges.{Stays}
use Rattle.ipc_io.proofs.seeking.read_retrying.Given as goal

abbrev pub invariant-tries : goal.invariant-tries
invariant-tries g l =
    let position = g.R.Seek.stream_position in
    let bytes = g.R.Seek.stream_bytes in
    (length l.piece ≡ length l.initial.piece) × Stays (position_and_bytes (position l.initial.reader) (bytes l.initial.reader)) (position_and_bytes (position l.reader) (bytes l.reader))
