-- Fields of columns.
use Rattle.std.specs.Prelude.{ℕ, zero, suc, List, [], ◌∷◌, bytes_eq, Option, Some, None, option_map, if◌then◌else◌}
use Rattle.nest_memory.specs.TypeTree.{FieldTree}
use Rattle.json_write.specs.JsonText.{field_name}
use Rattle.cli_args.specs.Columns.{ColumnTree, indexed, named}

-- the first field of a name
abbrev pub spec_field_named : List ℕ → List FieldTree → Option FieldTree
spec_field_named name [] = None
spec_field_named name (f ∷ fs) = if bytes_eq (field_name f) name then Some f else spec_field_named name fs

-- the field at an index
abbrev pub spec_field_at : ℕ → List FieldTree → Option FieldTree
spec_field_at i [] = None
spec_field_at zero (f ∷ fs) = Some f
spec_field_at (suc i) (f ∷ fs) = spec_field_at i fs

abbrev pub field_of_column : ColumnTree → List FieldTree → Option FieldTree
field_of_column (named name) fields = spec_field_named name fields
field_of_column (indexed i) fields = spec_field_at i fields

-- the index of the first field of a name
abbrev pub spec_column_index : List ℕ → List FieldTree → Option ℕ
spec_column_index name [] = None
spec_column_index name (f ∷ fs) = if bytes_eq (field_name f) name then Some 0 else option_map suc (spec_column_index name fs)

-- a name by the index of its first field, if there is one
abbrev pub column_by_index : List ℕ → Option ℕ → ColumnTree
column_by_index name None = named name
column_by_index name (Some i) = indexed i

abbrev pub resolved_column : List FieldTree → ColumnTree → ColumnTree
resolved_column fields (named name) = column_by_index name (spec_column_index name fields)
resolved_column fields (indexed i) = indexed i
