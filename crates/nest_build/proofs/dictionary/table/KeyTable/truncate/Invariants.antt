use Rattle.std.proofs.Common.{◌≡◌, ◌≤◌, length, take}
use Rattle.nest_build.proofs.dictionary.table.KeyTable.truncate.Given as goal

abbrev pub invariant-loop-self : goal.invariant-loop-self
invariant-loop-self l = (l.n ≤ length l.self) × (take l.n l.self ≡ take l.n l.fn.self)

abbrev pub decreases-loop-self : goal.decreases-loop-self
decreases-loop-self l = length l.self
