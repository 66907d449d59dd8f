use Rattle.std.proofs.Common.{take}
use Rattle.nest_take.proofs.Picks.{AreCounts, AreFew}
use Rattle.nest_take.proofs.union.count_picks.Given as goal

abbrev pub invariant-loop-place : goal.invariant-loop-place
invariant-loop-place l = record { counted : AreCounts l.array (take l.place-index l.indices) l.counts; few : AreFew l.counts }
