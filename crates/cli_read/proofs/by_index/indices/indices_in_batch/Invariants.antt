use Rattle.std.proofs.Common.{◌≡◌, ◌+◌, ◌<◌, length, map, take}
use Rattle.std.specs.List.{AllByRecursion}
use Rattle.cli_read.specs.Indices.{AreSortedFrom}
use Rattle.cli_read.proofs.by_index.indices.indices_in_batch.Given as goal

abbrev pub invariant-loop-index : goal.invariant-loop-index
invariant-loop-index l =
    (length l.found.items ≡ l.index-index)
    × (AreSortedFrom l.passed l.indices → (map (λ i. l.passed + i) l.found.items ≡ take l.index-index l.indices) × AllByRecursion (λ i. i < l.rows) l.found.items)
