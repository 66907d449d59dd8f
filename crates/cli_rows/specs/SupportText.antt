-- Columns that are not supported, as text.
use Rattle.std.specs.Prelude.{ℕ, List, [], ◌∷◌, ◌++◌, codes, drop, Option, Some, None}
use Rattle.nest_memory.specs.TypeText.{text_of_field}
use Rattle.nest_memory.specs.TypeTree.{FieldTree}
use Rattle.ipc_schema.specs.FieldSupport.{UnsupportedFieldModel, FieldSupportModel, path_of, spec_type_name}

-- an unsupported field: its path and its type
abbrev pub text_of_unsupported : UnsupportedFieldModel → List ℕ
text_of_unsupported field = path_of field.names ++ (codes ": " ++ (spec_type_name field.type ++ codes " (not supported)\n"))

-- the next line: a supported column is the next one of the fields
abbrev pub column_line : Option UnsupportedFieldModel → List FieldTree → List ℕ
column_line (Some field) fields = text_of_unsupported field
column_line None [] = []
column_line None (f ∷ fields) = text_of_field f ++ codes "\n"

abbrev pub fields_after : Option UnsupportedFieldModel → List FieldTree → List FieldTree
fields_after (Some field) fields = fields
fields_after None fields = drop 1 fields

-- a line for each column; fields has the supported ones
abbrev pub text_of_columns : List FieldSupportModel → List FieldTree → List ℕ
text_of_columns [] fields = []
text_of_columns (c ∷ cs) fields = column_line c.unsupported fields ++ text_of_columns cs (fields_after c.unsupported fields)

-- the error of the first column that is not supported
abbrev pub text_of_error : UnsupportedFieldModel → List ℕ
text_of_error field = codes "column \"" ++ (path_of field.names ++ (codes "\": " ++ (spec_type_name field.type ++ codes " is not supported (read other columns with --columns)")))
