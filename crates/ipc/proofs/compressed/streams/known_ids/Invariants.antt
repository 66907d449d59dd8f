use Rattle.std.proofs.Common.{map, take}
use Rattle.std.specs.Int.{w64}
use Rattle.std.specs.Int.RustNames.{FitsSigned}
use Rattle.std.specs.List.{AllByRecursion}
use Rattle.ipc.specs.EntriesOf.{entry_of}
use Rattle.ipc.proofs.compressed.streams.known_ids.Given as goal

abbrev pub invariant-loop-entry : goal.invariant-loop-entry
invariant-loop-entry l = AllByRecursion (λ e. FitsSigned w64 e.0) (map entry_of (take l.entry-index l.pending))
