use Rattle.std.proofs.Common.{◌-◌, length}
use Rattle.nest_build.proofs.Seats.{Seeking}
use Rattle.nest_build.proofs.dictionary.table.place_of.Given as goal

abbrev pub invariant-loop-step : goal.invariant-loop-step
invariant-loop-step l = Seeking l.places l.hash l.number l.step

abbrev pub decreases-loop-step : goal.decreases-loop-step
decreases-loop-step l = length l.places - l.step
