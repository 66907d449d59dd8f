-- The tree of a flat builder, which has one level, and the values of one native type.
use Rattle.std.specs.Prelude.{ℕ, List, Option, option_map}
use Rattle.nest_memory.specs.declared.error.Error.{Error}
use Rattle.nest_model.specs.Layout.{Layout, layout_type}
use Rattle.nest_model.specs.Meaning.{slots_of}
use Rattle.nest_model.specs.BuilderTree as builders
use Rattle.nest_model.specs.BuilderTree.{BuilderTree}
use Rattle.nest_model.specs.BuilderItem as items
use Rattle.nest_model.specs.BuilderRefusals.{requirement_refusal}

abbrev pub flat_tree : Layout → BuilderTree
flat_tree a = builders.flat (layout_type a) (slots_of a)

-- the first check that refuses these bytes, or a null
abbrev pub bytes_refusal : Option (List ℕ) → Layout → Option Error
bytes_refusal given a = requirement_refusal (option_map items.bytes given) (flat_tree a)
