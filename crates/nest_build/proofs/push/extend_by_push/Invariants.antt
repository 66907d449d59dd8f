use Rattle.nest_model.specs.BuilderReading.{ConsumedEach}
use Rattle.nest_build.proofs.push.extend_by_push.Given as goal

abbrev pub invariant-loop-item : goal.invariant-loop-item
invariant-loop-item g l =
    (goal.iterator-loop-item g).can_next l.item-iterator ×
    (goal.iterator-loop-item g).is_finite l.item-iterator ×
    ConsumedEach g.B.TryPush.reads l.yielded (g.B.MutableArray.model l.fn.builder) (g.B.MutableArray.model l.builder)
