use Rattle.std.proofs.Common.{◌↔◌, ◌+◌, ◌*◌, drop}
use Rattle.nest_any.specs.BuilderCode.{weight, weight_all}
use Rattle.nest_any.specs.Trees.{tree_of, trees_of}
use Rattle.nest_model.specs.BuilderComplete.{AreComplete}
use Rattle.nest_any.proofs.+complete.Given as goal

abbrev pub decreases-any::AnyMutableArray::complete : goal.decreases-any::AnyMutableArray::complete
decreases-any::AnyMutableArray::complete l = 3 * weight (tree_of l.self.now) + 2

abbrev pub decreases-lists::ListBuilder::complete : goal.decreases-lists::ListBuilder::complete
decreases-lists::ListBuilder::complete l = 3 * weight l.self.now + 1

abbrev pub decreases-struct_::MutableStructArray::complete : goal.decreases-struct_::MutableStructArray::complete
decreases-struct_::MutableStructArray::complete l = 3 * weight l.self.now + 1

abbrev pub decreases-children::each_is_complete : goal.decreases-children::each_is_complete
decreases-children::each_is_complete l = 3 * weight_all (trees_of l.children.now)

abbrev pub invariant-children::each_is_complete-loop-i : goal.invariant-children::each_is_complete-loop-i
invariant-children::each_is_complete-loop-i l = AreComplete (trees_of l.children) l.n ↔ AreComplete (trees_of (drop l.i l.children)) l.n
