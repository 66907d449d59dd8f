-- Builders of lists of numbers as their trees.
use Rattle.std.specs.Prelude.{Bool, false, List}
use Rattle.nest_memory.specs.TypeTree.{TypeTree}
use Rattle.nest_model.specs.BuilderRow.{Row}
use Rattle.nest_model.specs.BuilderTree.{BuilderTree, fixed_size_list, flat, list}
use Rattle.nest_model.specs.Layout.{Layout, layout_type}
use Rattle.nest_model.specs.Meaning.{slots_of}

abbrev pub list_tree : TypeTree → List Row → Layout → BuilderTree
list_tree t rows numbers = list false t rows (flat (layout_type numbers) (slots_of numbers))

abbrev pub nested_tree : TypeTree → List Row → TypeTree → List Row → Layout → BuilderTree
nested_tree t rows u below numbers = list false t rows (list_tree u below numbers)

abbrev pub sized_tree : TypeTree → List Bool → Layout → BuilderTree
sized_tree t bits numbers = fixed_size_list t bits (flat (layout_type numbers) (slots_of numbers))
