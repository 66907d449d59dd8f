-- The tree of a list builder.
use Rattle.nest_any.specs.declared.lists.ListBuilder.TheInside.{Inside}
use Rattle.nest_any.specs.Trees.{tree_of}
use Rattle.nest_any.specs.TypedRows.{lists_over}
use Rattle.nest_model.specs.BuilderTree.{BuilderTree}

abbrev pub lists_seen : Inside → BuilderTree
lists_seen b = lists_over b.rows (tree_of b.values.value)
