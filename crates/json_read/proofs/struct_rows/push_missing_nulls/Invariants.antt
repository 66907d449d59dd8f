use Rattle.std.specs.Prelude.{◌==◌}
use Rattle.std.proofs.Common.{◌≡◌, ℕ, ◌<◌, ◌≤◌, length, get_or}
use Rattle.nest_any.specs.Trees.{tree_of}
use Rattle.nest_any.specs.declared.any.AnyMutableArray.{AnyMutableArray}
use Rattle.json_read.specs.StructMembers.{AddedIf}
use Rattle.nest_model.specs.BuilderTree.{builder_len}
use Rattle.nest_model.specs.Slot as slots
use Rattle.json_read.proofs.struct_rows.push_missing_nulls.Given as goal

abbrev pub invariant-loop-i : goal.invariant-loop-i
invariant-loop-i l =
    record {
      same_length : length l.children ≡ length l.fn.children;
      done : (k : ℕ) (d : AnyMutableArray) → k < l.i → AddedIf (builder_len (tree_of (get_or l.fn.children k d)) == l.n) slots.null (tree_of (get_or l.fn.children k d)) (tree_of (get_or l.children k d));
      left : (k : ℕ) (d : AnyMutableArray) → l.i ≤ k → get_or l.children k d ≡ get_or l.fn.children k d;
    }
