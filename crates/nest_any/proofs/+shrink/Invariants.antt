use Rattle.std.proofs.Common.{◌≡◌, ℕ, ◌+◌, ◌*◌, length, get_or}
use Rattle.nest_any.specs.declared.any.AnyMutableArray.{AnyMutableArray}
use Rattle.nest_any.specs.BuilderCode.{weight, weight_all}
use Rattle.nest_any.specs.Trees.{tree_of, trees_of}
use Rattle.nest_any.proofs.+shrink.Given as goal

abbrev pub decreases-any::AnyMutableArray::shrink : goal.decreases-any::AnyMutableArray::shrink
decreases-any::AnyMutableArray::shrink l = 3 * weight (tree_of l.self.now) + 2

abbrev pub decreases-lists::ListBuilder::shrink : goal.decreases-lists::ListBuilder::shrink
decreases-lists::ListBuilder::shrink l = 3 * weight l.self.now + 1

abbrev pub decreases-struct_::MutableStructArray::shrink : goal.decreases-struct_::MutableStructArray::shrink
decreases-struct_::MutableStructArray::shrink l = 3 * weight l.self.now + 1

abbrev pub decreases-children::shrink_each : goal.decreases-children::shrink_each
decreases-children::shrink_each l = 3 * weight_all (trees_of l.children.now)

abbrev pub invariant-children::shrink_each-loop-i : goal.invariant-children::shrink_each-loop-i
invariant-children::shrink_each-loop-i l =
    record {
      same_length : length l.children ≡ length l.fn.children;
      same : (k : ℕ) (d : AnyMutableArray) → tree_of (get_or l.children k d) ≡ tree_of (get_or l.fn.children k d);
    }
