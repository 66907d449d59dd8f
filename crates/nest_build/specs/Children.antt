-- The child of a list builder, and whether a row of its items can be added.
use Rattle.std.specs.Prelude.{◌≡◌, ℕ, List as Seq}
use Rattle.nest_model.specs.BuilderFreeze.{offsets_from}
use Rattle.nest_model.specs.BuilderAddRow.{CoversRows}
use Rattle.nest_model.specs.BuilderTree.{BuilderTree, list, fixed_size_list}

-- the child; a builder that is not of lists is returned as it is
abbrev pub list_child : BuilderTree → BuilderTree
list_child (list large t rows c) = c
list_child (fixed_size_list t bits c) = c
list_child t = t

-- the list builder with its child replaced
abbrev pub with_items : BuilderTree → BuilderTree → BuilderTree
with_items (list large t rows c) d = list large t rows d
with_items (fixed_size_list t bits c) d = fixed_size_list t bits d
with_items b d = b

-- the child has the type of the items and at least the items of the rows
abbrev pub ListCovers : BuilderTree → Type 0
ListCovers (list large t rows c) = CoversRows t rows c
ListCovers t = ⊥

-- the offsets of the rows, from 0
abbrev pub IsListBy : Seq ℕ → BuilderTree → Type 0
IsListBy os (list large t rows c) = offsets_from 0 rows ≡ os
IsListBy os t = ⊥
