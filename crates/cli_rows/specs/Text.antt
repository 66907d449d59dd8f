-- Columns and rows as lines of text.
use Rattle.std.specs.Prelude.{ℕ, List, [], ◌∷◌, ◌++◌}
use Rattle.std.specs.List.{flat_map}
use Rattle.nest_memory.specs.TypeText.{text_of_field}
use Rattle.nest_memory.specs.TypeTree.{FieldTree}
use Rattle.json_write.specs.JsonText.{json_of_slot}
use Rattle.cli_rows.specs.Rows.{RowSlot}

-- a row as JSON and a newline
abbrev pub json_line : RowSlot → List ℕ
json_line row = json_of_slot row.0 row.1 ++ 10 ∷ []

abbrev pub text_of_rows : List RowSlot → List ℕ
text_of_rows rows = flat_map json_line rows

-- a line for each column: its name, its data type, and `not null` if it is not nullable
abbrev pub text_of_schema : List FieldTree → List ℕ
text_of_schema fields = flat_map (λ f. text_of_field f ++ 10 ∷ []) fields
