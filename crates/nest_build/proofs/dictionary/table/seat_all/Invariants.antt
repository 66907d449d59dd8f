use Rattle.std.proofs.Common.{◌≡◌, length, take}
use Rattle.nest_build.specs.Seats.{AreSeats}
use Rattle.nest_build.proofs.dictionary.table.seat_all.Given as goal

abbrev pub invariant-loop-i : goal.invariant-loop-i
invariant-loop-i l = AreSeats (take l.i l.hashes) l.places.items × (length l.places.items ≡ length l.fn.places.items)
