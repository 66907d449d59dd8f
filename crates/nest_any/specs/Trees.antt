-- The tree of a builder of any kind.
use Rattle.std.specs.Prelude.{List as Seq}
use Rattle.nest_any.specs.declared.any.AnyMutableArray.{AnyMutableArray}
use Rattle.nest_any.specs.declared.any.AnyMutableArray.TheVariants.{Null, Flat, Dictionary, List, Struct}
use Rattle.nest_any.specs.Dictionaries.{dictionary_tree}
use Rattle.nest_any.specs.Each.{each}
use Rattle.nest_any.specs.Flat.{values_tree}
use Rattle.nest_build.specs.FlatTree.{flat_tree}
use Rattle.nest_model.specs.BuilderTree.{BuilderTree, BuilderTrees}

abbrev pub tree_of : AnyMutableArray → BuilderTree
tree_of (Null b) = flat_tree b
tree_of (Flat b) = values_tree b
tree_of (Dictionary b) = dictionary_tree b
tree_of (List b) = b
tree_of (Struct b) = b

abbrev pub trees_of : Seq AnyMutableArray → BuilderTrees
trees_of bs = each tree_of bs
