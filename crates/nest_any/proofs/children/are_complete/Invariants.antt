use Rattle.std.proofs.Common.{◌↔◌, drop}
use Rattle.nest_any.specs.Trees.{trees_of}
use Rattle.nest_model.specs.BuilderAddRow.{AreEachComplete}
use Rattle.nest_any.proofs.children.are_complete.Given as goal

abbrev pub invariant-loop-i : goal.invariant-loop-i
invariant-loop-i l = AreEachComplete (trees_of l.children) ↔ AreEachComplete (trees_of (drop l.i l.children))
