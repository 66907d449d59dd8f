-- The tree of a struct builder.
use Rattle.nest_any.specs.declared.struct_.MutableStructArray.TheInside.{Inside}
use Rattle.nest_any.specs.Trees.{trees_of}
use Rattle.nest_model.specs.BuilderTree.{BuilderTree, struct}

abbrev pub struct_seen : Inside → BuilderTree
struct_seen b = struct b.data_type b.rows (trees_of b.values.items)
