-- The builder of the rows, as a builder tree.
use Rattle.std.specs.Prelude.{ℕ, false, List}
use Rattle.nest_memory.specs.TypeTree.{TypeTree}
use Rattle.nest_model.specs.BuilderRow.{Row}
use Rattle.nest_model.specs.BuilderTree.{BuilderTree, builder_len, flat, list}
use Rattle.nest_model.specs.Layout.{Layout, layout_type}
use Rattle.nest_model.specs.Meaning.{slots_of}
use Rattle.nest_build.specs.Children.{list_child}

-- a builder of lists of that type with 32-bit offsets, of these rows over these numbers
abbrev pub tree_of : TypeTree → List Row → Layout → BuilderTree
tree_of t rows numbers = list false t rows (flat (layout_type numbers) (slots_of numbers))

-- the number of items
abbrev pub item_total : BuilderTree → ℕ
item_total t = builder_len (list_child t)
