use Rattle.std.proofs.Common.{take}
use Rattle.std.specs.List.Sorted.{IsNonDecreasing}
use Rattle.cli_read.specs.Indices.{HaveRanks, AreElementsOf}
use Rattle.cli_read.proofs.by_index.indices.positions.Given as goal

abbrev pub invariant-loop-index : goal.invariant-loop-index
invariant-loop-index l = IsNonDecreasing l.sorted_indices → AreElementsOf l.sorted_indices l.indices → HaveRanks l.sorted_indices (take l.index-index l.indices) l.positions.items
