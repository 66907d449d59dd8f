use Rattle.std.proofs.Common.{◌≡◌}
use Rattle.ipc.specs.Streams.{state_of}
use Rattle.ipc_io.specs.StreamReaders.{GoesOn}
use Rattle.ipc_io.proofs.stream_reader.read_next.Given as goal

abbrev pub invariant-messages : goal.invariant-messages
invariant-messages g l = let remaining = g.R.Read.remaining in record {
  picked : l.state.picked ≡ l.fn.state.picked;
  on : GoesOn (state_of l.fn.state) (remaining l.fn.reader) (state_of l.state) (remaining l.reader);
}
