-- The arrays of the worked examples of columns and entries.
use Rattle.std.specs.Prelude.{ℕ, List, [], ◌∷◌, codes}
use Rattle.nest_memory.specs.TypeTree.{Letters}
use Rattle.nest_model.specs.Examples.{both, ints, two_texts}
use Rattle.nest_model.specs.Layout.{Layout}
use Rattle.nest_array.specs.Columns.{columns_struct}
use Rattle.nest_array.specs.Entries.{entries_map}

-- the names of two columns
abbrev pub name_and_age : List Letters
name_and_age = codes "name" ∷ codes "age" ∷ []

-- the structs {"a", 1} and {"b", 2}
abbrev pub people : Layout
people = columns_struct name_and_age (both two_texts (ints (1 ∷ 2 ∷ [])))

-- maps over the entries "a": 1 and "b": 2, by these offsets
abbrev pub ages : List ℕ → Layout
ages os = entries_map os two_texts (ints (1 ∷ 2 ∷ []))
