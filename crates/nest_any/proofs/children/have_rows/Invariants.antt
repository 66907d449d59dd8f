use Rattle.std.proofs.Common.{◌↔◌, drop}
use Rattle.nest_any.specs.Trees.{trees_of}
use Rattle.nest_model.specs.BuilderAddRow.{HaveRows}
use Rattle.nest_any.proofs.children.have_rows.Given as goal

abbrev pub invariant-loop-i : goal.invariant-loop-i
invariant-loop-i l = HaveRows (trees_of l.children) l.n ↔ HaveRows (trees_of (drop l.i l.children)) l.n
