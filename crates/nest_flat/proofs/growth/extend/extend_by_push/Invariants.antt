use Rattle.nest_flat.proofs.Extending.{Consumed}
use Rattle.nest_flat.proofs.growth.extend.extend_by_push.Given as goal

abbrev pub invariant-loop-item : goal.invariant-loop-item
invariant-loop-item g l =
    (goal.iterator-loop-item g).can_next l.item-iterator ×
    (goal.iterator-loop-item g).is_finite l.item-iterator ×
    Consumed g.B.Grow.pushed g.B.Grow.refusal g.B.Grow.slot_of_item l.yielded (g.B.Grow.layout l.fn.builder) (g.B.Grow.layout l.builder)
