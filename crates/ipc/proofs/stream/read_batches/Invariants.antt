use Rattle.std.proofs.Common.{◌≡◌, length, map}
use Rattle.ipc.specs.Streams.{record_batch_of, batches_in, state_of}
use Rattle.ipc.proofs.Loops.{with_batches}
use Rattle.ipc.proofs.stream.read_batches.Given as goal

abbrev pub invariant-batches : goal.invariant-batches
invariant-batches l = record {
  picked : l.state.picked ≡ l.fn.state.picked;
  left : with_batches (map record_batch_of l.batches.items) (batches_in (state_of l.state) l.rest) ≡ batches_in (state_of l.fn.state) l.bytes;
}

abbrev pub decreases-batches : goal.decreases-batches
decreases-batches l = length l.rest
