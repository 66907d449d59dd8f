-- Names that are similar to one that no column has, and the message that lists them.
use Rattle.std.specs.Prelude.{ℕ, ◌/◌, Bool, ◌||◌, List, [], ◌∷◌, ◌++◌, length, map, filter, max, nat_le, codes}
use Rattle.std.specs.List.{flat_map}
use Rattle.std.specs.Str.{chars, str_eq_ignore_ascii_case}
use Rattle.strsim.specs.Edits.{osa_table}
use Rattle.nest_memory.specs.TypeTree.{FieldTree}
use Rattle.json_write.specs.JsonText.{field_name}

-- the number of edits between two names: a character is inserted, deleted, replaced, or exchanged with the next one (optimal string alignment)
abbrev pub edit_distance : List ℕ → List ℕ → ℕ
edit_distance from to = (osa_table (chars from) (chars to)).last_row (length (chars to))

-- equal but for the case of ASCII letters, or at most as many edits apart as rustc allows: a third of the wanted name's bytes, and at least one
abbrev pub spec_is_similar : List ℕ → List ℕ → Bool
spec_is_similar wanted name = str_eq_ignore_ascii_case name wanted || nat_le (edit_distance wanted name) (max (length wanted) 3 / 3)

-- the names of fields that are similar to a wanted one, in the order of the fields
abbrev pub spec_similar_names : List ℕ → List FieldTree → List (List ℕ)
spec_similar_names wanted fields = filter (spec_is_similar wanted) (map field_name fields)

abbrev pub quoted_name : List ℕ → List ℕ
quoted_name name = codes "\"" ++ (name ++ codes "\"")

-- the similar names, after a message; nothing if there are none
abbrev pub similar_text : List (List ℕ) → List ℕ
similar_text [] = []
similar_text (name ∷ names) = codes " (similar: " ++ (quoted_name name ++ (flat_map (λ n. codes ", " ++ quoted_name n) names ++ codes ")"))

-- the message of a name that no field has
abbrev pub spec_unknown_name_text : List ℕ → List FieldTree → List ℕ
spec_unknown_name_text wanted fields = codes "there is no column \"" ++ (wanted ++ (codes "\"" ++ similar_text (spec_similar_names wanted fields)))
