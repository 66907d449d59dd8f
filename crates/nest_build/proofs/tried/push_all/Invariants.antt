use Rattle.std.proofs.Common.{◌≡◌, ◌≤◌, length, vec_capacity}
use Rattle.std.specs.List.{items_where_true}
use Rattle.nest_model.specs.BuilderReading.{ConsumedEach}
use Rattle.nest_build.proofs.tried.push_all.Given as goal

abbrev pub invariant-loop-item : goal.invariant-loop-item
invariant-loop-item g l =
    (length l.marks.items ≡ length l.yielded) ×
    (length l.fn.items.items ≤ vec_capacity l.marks) ×
    ConsumedEach g.B.TryPush.reads (items_where_true l.marks.items l.yielded) (g.B.MutableArray.model l.fn.builder) (g.B.MutableArray.model l.builder)
