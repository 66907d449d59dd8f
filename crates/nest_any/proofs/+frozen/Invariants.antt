use Rattle.std.specs.Prelude.{IfOk, IsOkUnless, alloc_error}
use Rattle.std.proofs.Common.{◌≡◌, ℕ, ◌+◌, ◌*◌, ◌<◌, ◌≤◌, length, get_or, take}
use Rattle.nest_array.specs.Seen.{layouts_of}
use Rattle.nest_memory.specs.declared.error.Error.TheVariants.{Memory}
use Rattle.nest_model.specs.BuilderComplete.{emptied}
use Rattle.nest_any.specs.declared.any.AnyMutableArray.{AnyMutableArray}
use Rattle.nest_any.specs.BuilderCode.{weight, weight_all}
use Rattle.nest_any.specs.Refusals.{AreFrozen}
use Rattle.nest_any.specs.Trees.{tree_of, trees_of}
use Rattle.nest_any.proofs.+frozen.Given as goal

abbrev pub decreases-any::AnyMutableArray::frozen : goal.decreases-any::AnyMutableArray::frozen
decreases-any::AnyMutableArray::frozen l = 3 * weight (tree_of l.self.now) + 2

abbrev pub decreases-lists::ListBuilder::frozen : goal.decreases-lists::ListBuilder::frozen
decreases-lists::ListBuilder::frozen l = 3 * weight l.self.now + 1

abbrev pub decreases-struct_::MutableStructArray::frozen : goal.decreases-struct_::MutableStructArray::frozen
decreases-struct_::MutableStructArray::frozen l = 3 * weight l.self.now + 1

abbrev pub decreases-struct_::MutableStructArray::frozen_parts : goal.decreases-struct_::MutableStructArray::frozen_parts
decreases-struct_::MutableStructArray::frozen_parts l = 3 * weight l.self.now

abbrev pub decreases-children::frozen_each : goal.decreases-children::frozen_each
decreases-children::frozen_each l = 3 * weight_all (trees_of l.children.now)

abbrev pub invariant-children::frozen_each-loop-i : goal.invariant-children::frozen_each-loop-i
invariant-children::frozen_each-loop-i l =
    record {
      same_length : length l.children ≡ length l.fn.children;
      memory : IsOkUnless l.arrays (Memory alloc_error);
      arrays : IfOk l.arrays (λ v. AreFrozen (layouts_of v.items) (trees_of (take l.i l.fn.children)));
      done : (k : ℕ) (d : AnyMutableArray) → k < l.i → tree_of (get_or l.children k d) ≡ emptied (tree_of (get_or l.fn.children k d));
      left : (k : ℕ) (d : AnyMutableArray) → l.i ≤ k → get_or l.children k d ≡ get_or l.fn.children k d;
    }
