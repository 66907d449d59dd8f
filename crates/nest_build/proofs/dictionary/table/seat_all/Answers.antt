use Rattle.std.proofs.Common.{ℕ, ◌+◌, get_or, ◌∙◌}
use Rattle.std.proofs.lemmas.List.{length-set}
use Rattle.nest_build.specs.Seats.{IsFree}
use Rattle.nest_build.proofs.Seats.{seats_step}
use Rattle.nest_build.proofs.dictionary.table.seat_all.Goals as goal

pub loop-i-preserved : goal.loop-i-preserved
loop-i-preserved c =
    let places = c.loop-i.places.items in
    let i = c.loop-i.i in
    let free : IsFree places (get_or c.args.hashes.now i 0) c.free_place-place.result = rw c.as_slice.ensures.value at c.free_place-place.ensures in (
      seats_step c.args.hashes.now places i c.free_place-place.result c.loop-i.invariant.0 c.loop-i-test.true free,
      length-set places c.free_place-place.result (i + 1) ∙ c.loop-i.invariant.1,
    )
