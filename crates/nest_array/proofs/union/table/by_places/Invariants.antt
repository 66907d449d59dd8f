use Rattle.std.proofs.Common.{◌≡◌, ℕ, ◌<◌, length, get_or}
use Rattle.nest_array.proofs.union.table.by_places.Given as goal

abbrev pub invariant-loop-k : goal.invariant-loop-k
invariant-loop-k l = (length l.table ≡ 128) × ((j : ℕ) → j < l.k → get_or l.table j 127 ≡ j)
