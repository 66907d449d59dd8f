use Rattle.std.proofs.Common.{◌-◌, length}
use Rattle.nest_build.proofs.Seats.{Probing}
use Rattle.nest_build.proofs.dictionary.table.free_place.Given as goal

abbrev pub invariant-loop-step : goal.invariant-loop-step
invariant-loop-step l = Probing l.places l.hash l.step

abbrev pub decreases-loop-step : goal.decreases-loop-step
decreases-loop-step l = length l.places - l.step
