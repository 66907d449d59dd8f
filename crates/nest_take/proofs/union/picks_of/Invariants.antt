use Rattle.std.proofs.Common.{◌≡◌, take}
use Rattle.nest_take.specs.Taken.{pick_indices}
use Rattle.nest_take.proofs.union.picks_of.Given as goal

abbrev pub invariant-loop-place : goal.invariant-loop-place
invariant-loop-place l = l.picks.items ≡ pick_indices l.array l.field (take l.place-index l.indices)
