use Rattle.std.proofs.Common.{◌≡◌, length}
use Rattle.ipc.specs.Streams.{next_in, state_of}
use Rattle.ipc.proofs.reading.next_batch.Given as goal

abbrev pub invariant-messages : goal.invariant-messages
invariant-messages l = record {
  picked : l.state.picked ≡ l.fn.state.picked;
  left : next_in (state_of l.state) l.rest ≡ next_in (state_of l.fn.state) l.bytes;
}

abbrev pub decreases-messages : goal.decreases-messages
decreases-messages l = length l.rest
