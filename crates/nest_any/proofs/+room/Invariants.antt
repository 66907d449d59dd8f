use Rattle.std.proofs.Common.{◌≡◌, ℕ, ◌+◌, ◌*◌, ◌<◌, length, get_or, false}
use Rattle.nest_any.specs.declared.any.AnyMutableArray.{AnyMutableArray}
use Rattle.nest_any.specs.BuilderCode.{weight, weight_all}
use Rattle.nest_any.specs.Trees.{tree_of, trees_of}
use Rattle.nest_build.specs.Shown.{reserve_passes}
use Rattle.nest_any.proofs.+room.Given as goal

abbrev pub decreases-any::AnyMutableArray::room : goal.decreases-any::AnyMutableArray::room
decreases-any::AnyMutableArray::room l = 3 * weight (tree_of l.self.now) + 2

abbrev pub decreases-lists::ListBuilder::room : goal.decreases-lists::ListBuilder::room
decreases-lists::ListBuilder::room l = 3 * weight l.self.now + 1

abbrev pub decreases-struct_::MutableStructArray::room : goal.decreases-struct_::MutableStructArray::room
decreases-struct_::MutableStructArray::room l = 3 * weight l.self.now + 1

abbrev pub decreases-children::room_each : goal.decreases-children::room_each
decreases-children::room_each l = 3 * weight_all (trees_of l.children.now)

abbrev pub invariant-children::room_each-loop-i : goal.invariant-children::room_each-loop-i
invariant-children::room_each-loop-i l =
    record {
      same_length : length l.children ≡ length l.fn.children;
      same : (k : ℕ) (d : AnyMutableArray) → tree_of (get_or l.children k d) ≡ tree_of (get_or l.fn.children k d);
      fits : (k : ℕ) (d : AnyMutableArray) → k < l.i → reserve_passes l.additional (tree_of (get_or l.fn.children k d)) ≡ false;
    }
