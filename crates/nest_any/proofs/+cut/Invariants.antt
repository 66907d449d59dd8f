use Rattle.std.proofs.Common.{◌≡◌, ℕ, ◌+◌, ◌*◌, ◌<◌, ◌≤◌, length, get_or}
use Rattle.nest_any.specs.declared.any.AnyMutableArray.{AnyMutableArray}
use Rattle.nest_any.specs.BuilderCode.{weight, weight_all}
use Rattle.nest_any.specs.Trees.{tree_of, trees_of}
use Rattle.nest_model.specs.BuilderComplete.{truncate_builder}
use Rattle.nest_any.proofs.+cut.Given as goal

abbrev pub decreases-any::AnyMutableArray::cut : goal.decreases-any::AnyMutableArray::cut
decreases-any::AnyMutableArray::cut l = 3 * weight (tree_of l.self.now) + 2

abbrev pub decreases-lists::ListBuilder::cut : goal.decreases-lists::ListBuilder::cut
decreases-lists::ListBuilder::cut l = 3 * weight l.self.now + 1

abbrev pub decreases-struct_::MutableStructArray::cut : goal.decreases-struct_::MutableStructArray::cut
decreases-struct_::MutableStructArray::cut l = 3 * weight l.self.now + 1

abbrev pub decreases-children::cut_each : goal.decreases-children::cut_each
decreases-children::cut_each l = 3 * weight_all (trees_of l.children.now)

abbrev pub invariant-children::cut_each-loop-i : goal.invariant-children::cut_each-loop-i
invariant-children::cut_each-loop-i l =
    record {
      same_length : length l.children ≡ length l.initial.children;
      done : (k : ℕ) (d : AnyMutableArray) → k < l.i → tree_of (get_or l.children k d) ≡ truncate_builder (tree_of (get_or l.initial.children k d)) l.n;
      left : (k : ℕ) (d : AnyMutableArray) → l.i ≤ k → get_or l.children k d ≡ get_or l.initial.children k d;
    }
