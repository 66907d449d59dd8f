use Rattle.std.proofs.Common.{◌≡◌, ◌↔◌, drop}
use Rattle.nest_memory.specs.TypeOf.{field_list_of}
use Rattle.nest_any.specs.Trees.{trees_of}
use Rattle.nest_model.specs.BuilderTree.{builder_types}
use Rattle.nest_model.specs.Layout.{field_types}
use Rattle.nest_any.proofs.children.have_types.Given as goal

abbrev pub invariant-loop-i : goal.invariant-loop-i
invariant-loop-i l = (builder_types (trees_of l.children) ≡ field_types (field_list_of l.fields)) ↔ (builder_types (trees_of (drop l.i l.children)) ≡ field_types (field_list_of (drop l.i l.fields)))
