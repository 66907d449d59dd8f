use Rattle.std.proofs.Common.{◌≡◌, ℕ, ◌+◌, ◌*◌, ◌<◌, ◌≤◌, length, get_or}
use Rattle.std.specs.Prelude.{vec_capacity}
use Rattle.nest_model.specs.Layout.{weight, weight_all}
use Rattle.nest_array.specs.declared.any.AnyArray.{AnyArray}
use Rattle.nest_array.specs.Seen.{layout_of, layouts_of}
use Rattle.nest_take.specs.Taken.{IsTaken, pick_indices}
use Rattle.nest_take.proofs.+take.Given as goal

abbrev pub decreases-any::take : goal.decreases-any::take
decreases-any::take l = 4 * weight (layout_of l.array.now) + 3

abbrev pub decreases-fixed_size_list::take_lists : goal.decreases-fixed_size_list::take_lists
decreases-fixed_size_list::take_lists l = 4 * weight l.array.now + 2

abbrev pub decreases-list::take_lists : goal.decreases-list::take_lists
decreases-list::take_lists l = 4 * weight l.array.now + 2

abbrev pub decreases-list::take_large_lists : goal.decreases-list::take_large_lists
decreases-list::take_large_lists l = 4 * weight l.array.now + 2

abbrev pub decreases-map::take_maps : goal.decreases-map::take_maps
decreases-map::take_maps l = 4 * weight l.array.now + 2

abbrev pub decreases-struct_::take_records : goal.decreases-struct_::take_records
decreases-struct_::take_records l = 4 * weight l.array.now + 2

abbrev pub decreases-struct_::take_all : goal.decreases-struct_::take_all
decreases-struct_::take_all l = 4 * weight_all (layouts_of l.children.now)

abbrev pub decreases-union::take_picks : goal.decreases-union::take_picks
decreases-union::take_picks l = 4 * weight l.array.now + 2

abbrev pub decreases-union::take_sparse : goal.decreases-union::take_sparse
decreases-union::take_sparse l = 4 * weight l.array.now + 1

abbrev pub decreases-union::take_dense : goal.decreases-union::take_dense
decreases-union::take_dense l = 4 * weight l.array.now + 1

abbrev pub decreases-union::take_fields : goal.decreases-union::take_fields
decreases-union::take_fields l = 4 * weight l.array.now

abbrev pub invariant-struct_::take_all-loop-i : goal.invariant-struct_::take_all-loop-i
invariant-struct_::take_all-loop-i l =
    record {
      same_length : length l.taken.items ≡ l.i;
      room : length l.children ≤ vec_capacity l.taken;
      done : (k : ℕ) (d : AnyArray) → k < l.i → IsTaken (layout_of (get_or l.children k d)) l.indices (layout_of (get_or l.taken.items k d));
    }

abbrev pub invariant-union::take_fields-loop-f : goal.invariant-union::take_fields-loop-f
invariant-union::take_fields-loop-f l =
    record {
      same_length : length l.taken.items ≡ l.f;
      room : length l.fields ≤ vec_capacity l.taken;
      done : (k : ℕ) (d : AnyArray) → k < l.f → IsTaken (layout_of (get_or l.fields k d)) (pick_indices l.array k l.indices) (layout_of (get_or l.taken.items k d));
    }
