use Rattle.std.proofs.Common.{◌≡◌, ℕ, ◌+◌, ◌*◌, ◌<◌, ◌≤◌, length, get_or}
use Rattle.nest_array.specs.declared.any.AnyArray.{AnyArray}
use Rattle.nest_model.specs.Layout.{weight, weight_all}
use Rattle.nest_model.specs.Slice.{slice_layout}
use Rattle.nest_array.specs.Seen.{layout_of, layouts_of}
use Rattle.nest_array.proofs.+cut.Given as goal

abbrev pub decreases-any::AnyArray::cut : goal.decreases-any::AnyArray::cut
decreases-any::AnyArray::cut l = 3 * weight (layout_of l.self.now) + 2

abbrev pub decreases-fixed_size_list::FixedSizeListArray::cut : goal.decreases-fixed_size_list::FixedSizeListArray::cut
decreases-fixed_size_list::FixedSizeListArray::cut l = 3 * weight l.self.now + 1

abbrev pub decreases-struct_::StructArray::cut : goal.decreases-struct_::StructArray::cut
decreases-struct_::StructArray::cut l = 3 * weight l.self.now + 1

abbrev pub decreases-struct_::cut_all : goal.decreases-struct_::cut_all
decreases-struct_::cut_all l = 3 * weight_all (layouts_of l.children.now)

abbrev pub invariant-struct_::cut_all-loop-i : goal.invariant-struct_::cut_all-loop-i
invariant-struct_::cut_all-loop-i l =
    record {
      same_length : length l.children ≡ length l.initial.children;
      done : (k : ℕ) (d : AnyArray) → k < l.i → layout_of (get_or l.children k d) ≡ slice_layout (layout_of (get_or l.initial.children k d)) l.o l.n;
      left : (k : ℕ) (d : AnyArray) → l.i ≤ k → get_or l.children k d ≡ get_or l.initial.children k d;
    }
