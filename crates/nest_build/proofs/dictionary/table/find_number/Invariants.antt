use Rattle.std.proofs.Common.{◌≡◌, ◌<◌, ℕ, suc, false, Some, slice_get}
use Rattle.nest_build.specs.Seats.{seat_at}
use Rattle.nest_build.proofs.dictionary.table.find_number.Given as goal

abbrev pub invariant-loop-step : goal.invariant-loop-step
invariant-loop-step g l = (d j : ℕ) → d < l.step → seat_at l.places l.hash d ≡ suc j → slice_get l.hashes j ≡ Some l.hash → goal.F-post g l.test j false
