use Rattle.std.proofs.Common.{◌≡◌, ℕ, ◌+◌, ◌*◌, ◌<◌, ◌≤◌, length, get_or, false}
use Rattle.nest_any.specs.declared.any.AnyMutableArray.{AnyMutableArray}
use Rattle.nest_any.specs.BuilderCode.{weight, weight_all}
use Rattle.nest_any.specs.Trees.{tree_of, trees_of}
use Rattle.nest_model.specs.BuilderAppend.{nulls_appended}
use Rattle.nest_model.specs.BuilderRefusals.{nulls_pass}
use Rattle.nest_any.proofs.+null.Given as goal

abbrev pub decreases-any::AnyMutableArray::add_null : goal.decreases-any::AnyMutableArray::add_null
decreases-any::AnyMutableArray::add_null l = 3 * weight (tree_of l.self.now) + 2

abbrev pub decreases-lists::ListBuilder::add_null : goal.decreases-lists::ListBuilder::add_null
decreases-lists::ListBuilder::add_null l = 3 * weight l.self.now + 1

abbrev pub decreases-struct_::MutableStructArray::add_null : goal.decreases-struct_::MutableStructArray::add_null
decreases-struct_::MutableStructArray::add_null l = 3 * weight l.self.now + 1

abbrev pub decreases-children::add_null_each : goal.decreases-children::add_null_each
decreases-children::add_null_each l = 3 * weight_all (trees_of l.children.now)

abbrev pub decreases-children::add_nulls : goal.decreases-children::add_nulls
decreases-children::add_nulls l = 3 * weight (tree_of l.child.now) + 3

abbrev pub invariant-children::add_nulls-loop-i : goal.invariant-children::add_nulls-loop-i
invariant-children::add_nulls-loop-i l =
    record {
      added : tree_of l.child ≡ nulls_appended l._i (tree_of l.fn.child);
      fits : 0 < l._i → nulls_pass l._i (tree_of l.fn.child) ≡ false;
    }

abbrev pub invariant-children::add_null_each-loop-i : goal.invariant-children::add_null_each-loop-i
invariant-children::add_null_each-loop-i l =
    record {
      same_length : length l.children ≡ length l.fn.children;
      done : (k : ℕ) (d : AnyMutableArray) → k < l.i → tree_of (get_or l.children k d) ≡ nulls_appended 1 (tree_of (get_or l.fn.children k d));
      fits : (k : ℕ) (d : AnyMutableArray) → k < l.i → nulls_pass 1 (tree_of (get_or l.fn.children k d)) ≡ false;
      left : (k : ℕ) (d : AnyMutableArray) → l.i ≤ k → get_or l.children k d ≡ get_or l.fn.children k d;
    }
