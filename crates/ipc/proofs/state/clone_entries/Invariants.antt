use Rattle.std.proofs.Common.{◌≡◌, ◌++◌}
use Rattle.ipc.specs.Streams.{known_of}
use Rattle.ipc.proofs.state.clone_entries.Given as goal

abbrev pub invariant-loop-id : goal.invariant-loop-id
invariant-loop-id l = known_of l.copy.entries ++ known_of l.id-iterator ≡ known_of l.known.entries
