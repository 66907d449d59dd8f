use Rattle.std.proofs.Common.{◌≡◌, ◌+◌, ◌<◌, ◌≤◌, ◌↔◌, drop}
use Rattle.nest_memory.specs.TypeOf.{field_list_of}
use Rattle.nest_any.specs.Trees.{trees_of}
use Rattle.nest_model.specs.BuilderAddRow.{HaveRows}
use Rattle.nest_model.specs.BuilderTree.{builder_types}
use Rattle.nest_model.specs.Layout.{field_types}
use Rattle.nest_model.specs.Checks.{largest_length}
use Rattle.nest_any.proofs.children.are_ready.Given as goal

abbrev pub invariant-loop-i : goal.invariant-loop-i
invariant-loop-i l =
    record {
      types : (builder_types (trees_of l.children) ≡ field_types (field_list_of l.fields)) ↔ (builder_types (trees_of (drop l.i l.children)) ≡ field_types (field_list_of (drop l.i l.fields)));
      rest : HaveRows (trees_of l.children) (l.n + 1) ↔ HaveRows (trees_of (drop l.i l.children)) (l.n + 1);
      room : 0 < l.i → l.n + 1 ≤ largest_length;
    }
