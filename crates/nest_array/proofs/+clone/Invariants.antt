use Rattle.std.proofs.Common.{◌≡◌, ℕ, ◌+◌, ◌*◌, ◌<◌, ◌≤◌, length, get_or}
use Rattle.std.specs.Prelude.{vec_capacity}
use Rattle.nest_array.specs.declared.any.AnyArray.{AnyArray}
use Rattle.nest_model.specs.Layout.{weight, weight_all}
use Rattle.nest_array.specs.Seen.{layout_of, layouts_of}
use Rattle.nest_array.proofs.+clone.Given as goal

abbrev pub decreases-any::AnyArray::clone : goal.decreases-any::AnyArray::clone
decreases-any::AnyArray::clone l = 4 * weight (layout_of l.self.now) + 3

abbrev pub decreases-any::boxed_fixed_size_list : goal.decreases-any::boxed_fixed_size_list
decreases-any::boxed_fixed_size_list l = 4 * weight l.array.now + 2

abbrev pub decreases-any::boxed_struct : goal.decreases-any::boxed_struct
decreases-any::boxed_struct l = 4 * weight l.array.now + 2

abbrev pub decreases-any::boxed_union : goal.decreases-any::boxed_union
decreases-any::boxed_union l = 4 * weight l.array.now + 2

abbrev pub decreases-fixed_size_list::FixedSizeListArray::clone : goal.decreases-fixed_size_list::FixedSizeListArray::clone
decreases-fixed_size_list::FixedSizeListArray::clone l = 4 * weight l.self.now + 1

abbrev pub decreases-struct_::StructArray::clone : goal.decreases-struct_::StructArray::clone
decreases-struct_::StructArray::clone l = 4 * weight l.self.now + 1

abbrev pub decreases-struct_::clone_all : goal.decreases-struct_::clone_all
decreases-struct_::clone_all l = 4 * weight_all (layouts_of l.children.now)

abbrev pub invariant-struct_::clone_all-loop-i : goal.invariant-struct_::clone_all-loop-i
invariant-struct_::clone_all-loop-i l =
    record {
      same_length : length l.copies.items ≡ l.i;
      room : length l.children ≤ vec_capacity l.copies;
      done : (k : ℕ) (d : AnyArray) → k < l.i → layout_of (get_or l.copies.items k d) ≡ layout_of (get_or l.children k d);
    }
