use Rattle.nest_build.proofs.Seats.{probed}
use Rattle.nest_build.proofs.dictionary.table.free_place.Goals as goal

pub loop-step-preserved : goal.loop-step-preserved
loop-step-preserved c = probed c.args.places.now c.args.hash c.loop-step.step c.place_at.result c.loop-step.invariant c.place_at.ensures.value c.loop-step-test.true
