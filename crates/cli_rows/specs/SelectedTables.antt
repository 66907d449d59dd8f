-- Selected rows as a table.
use Rattle.std.specs.Prelude.{◌≡◌, true, List, [], ◌∷◌, ◌++◌, map, Some}
use Rattle.std.specs.List.{AllByRecursion, flat_map}
use Rattle.nest_memory.specs.TypeTree as types
use Rattle.nest_memory.specs.TypeTree.{FieldTree}
use Rattle.nest_model.specs.Slot as slots
use Rattle.ipc.specs.declared.batch.Batch.{Batch}
use Rattle.ipc.specs.Streams.{RecordBatchTree, record_batch_of}
use Rattle.cli_args.specs.Requests.{SelectionTree}
use Rattle.cli_rows.specs.Selection.{selected_rows}
use Rattle.cli_rows.specs.Rows.{RowSlot, rows_of}
use Rattle.cli_rows.specs.Conditions.{is_valid}
use Rattle.cli_rows.specs.RequestText.{unless_error}
use Rattle.cli_rows.specs.ColumnNames.{spec_selection_error}
use Rattle.cli_rows.specs.Records.{record_type}
use Rattle.cli_rows.specs.Compared.{batch_array, table_rows}
use Rattle.cli_rows.specs.Tables.{TableTree}

-- the same schema, and the selected rows of all record batches, in order
abbrev pub IsSelectedFrom : SelectionTree → TableTree → TableTree → Type 0
IsSelectedFrom c h t = (t.schema ≡ h.schema) × (unless_error (spec_selection_error c h.schema.fields) (selected_rows c (table_rows h)) ≡ Some (table_rows t))

-- a row of a record batch of these columns: a record, or without a column a null
abbrev pub IsRowOf : List FieldTree → RowSlot → Type 0
IsRowOf [] r = r ≡ (types.null, slots.null)
IsRowOf (f ∷ fs) r = (r.0 ≡ record_type (f ∷ fs)) × (is_valid r.1 ≡ true)

abbrev pub AreRowsOf : List FieldTree → List RowSlot → Type 0
AreRowsOf fs rows = AllByRecursion (IsRowOf fs) rows

-- the rows of record batches
abbrev pub batch_rows : List FieldTree → List RecordBatchTree → List RowSlot
batch_rows fs bs = flat_map rows_of (map (batch_array fs) bs)

-- record batches of these rows were appended
abbrev pub AppendsRows : List FieldTree → List Batch → List Batch → List RowSlot → Type 0
AppendsRows fs old new rows = batch_rows fs (map record_batch_of new) ≡ batch_rows fs (map record_batch_of old) ++ rows
