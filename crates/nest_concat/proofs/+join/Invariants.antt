use Rattle.std.proofs.Common.{◌≡◌, ℕ, ◌+◌, ◌*◌, ◌<◌, ◌≤◌, length, get_or}
use Rattle.std.specs.Prelude.{map, vec_capacity}
use Rattle.nest_model.specs.Accessors.{child_at}
use Rattle.nest_model.specs.Layout.{layout_type, weight, weight_all}
use Rattle.nest_array.specs.declared.any.AnyArray.{AnyArray}
use Rattle.nest_array.specs.Seen.{layout_of, layouts_of}
use Rattle.nest_concat.specs.Joined.{IsJoined, first_array}
use Rattle.nest_concat.specs.Laid.{laid}
use Rattle.nest_concat.specs.Limits.{PassesLimits}
use Rattle.nest_concat.specs.Windows.{field_window}
use Rattle.nest_concat.proofs.+join.Given as goal

abbrev pub decreases-any::join : goal.decreases-any::join
decreases-any::join l = 2 * weight (first_array l.windows.now) + 1

abbrev pub decreases-dictionary::join_keyed : goal.decreases-dictionary::join_keyed
decreases-dictionary::join_keyed l = 2 * weight l.array.now

abbrev pub decreases-fixed_size_list::join_lists : goal.decreases-fixed_size_list::join_lists
decreases-fixed_size_list::join_lists l = 2 * weight l.array.now

abbrev pub decreases-list::join_lists : goal.decreases-list::join_lists
decreases-list::join_lists l = 2 * weight l.array.now

abbrev pub decreases-list::join_large_lists : goal.decreases-list::join_large_lists
decreases-list::join_large_lists l = 2 * weight l.array.now

abbrev pub decreases-map::join_maps : goal.decreases-map::join_maps
decreases-map::join_maps l = 2 * weight l.array.now

abbrev pub decreases-struct_::join_records : goal.decreases-struct_::join_records
decreases-struct_::join_records l = 2 * weight l.array.now

abbrev pub decreases-union::join_unions : goal.decreases-union::join_unions
decreases-union::join_unions l = 2 * weight l.array.now

abbrev pub decreases-struct_::join_fields : goal.decreases-struct_::join_fields
decreases-struct_::join_fields l = 2 * weight_all (layouts_of l.children.now)

abbrev pub invariant-struct_::join_fields-loop-f : goal.invariant-struct_::join_fields-loop-f
invariant-struct_::join_fields-loop-f l =
    record {
      same_length : length l.joined.items ≡ l.f;
      room : length l.children ≤ vec_capacity l.joined;
      done : (k : ℕ) (d : AnyArray) → k < l.f → IsJoined (layout_type (child_at (layouts_of l.children) k)) (map (field_window k) l.windows) (layout_of (get_or l.joined.items k d));
      laid_so : (k : ℕ) (d : AnyArray) → k < l.f → layout_of (get_or l.joined.items k d) ≡ laid (child_at (layouts_of l.children) k) (map (field_window k) l.windows);
      room_so : (k : ℕ) → k < l.f → PassesLimits (child_at (layouts_of l.children) k) (map (field_window k) l.windows) → ⊥;
    }
