use Rattle.nest_build.proofs.Seats.{sought}
use Rattle.nest_build.proofs.dictionary.table.place_of.Goals as goal

pub loop-step-preserved : goal.loop-step-preserved
loop-step-preserved c = sought c.args.places.now c.args.hash c.args.number c.loop-step.step c.place_at.result c.loop-step.invariant c.place_at.ensures.value c.loop-step-test.true
