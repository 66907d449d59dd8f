-- Selected rows of record batches.
use Rattle.std.specs.Prelude.{◌≡◌, List, map, Some, None}
use Rattle.std.specs.List.{AllByRecursion}
use Rattle.nest_memory.specs.TypeTree.{FieldTree}
use Rattle.nest_model.specs.Fits.{Fits}
use Rattle.ipc_flatbuf.specs.declared.error.IpcReadError.TheVariants as formats
use Rattle.ipc.specs.Streams.{RecordBatchTree}
use Rattle.cli_rows.specs.ColumnNames.{spec_selection_error}
use Rattle.cli_rows.specs.Selection.{selected_rows}
use Rattle.cli_rows.specs.Compared.{batch_array}
use Rattle.cli_rows.specs.SelectedTables.{batch_rows}
use Rattle.cli_rows.specs.declared.error.CliError.{CliError}
use Rattle.cli_rows.specs.declared.error.CliError.TheVariants.{Input, Read, Write, MismatchedColumns, IndexOutOfRange, Condition, UnknownName, Output, Memory}
use Rattle.cli_args.specs.Requests.{SelectionTree, all, slice, indices, where_true}

-- the rows of these record batches are the selected ones of others
abbrev pub AreSelectedRows : SelectionTree → List FieldTree → List RecordBatchTree → List RecordBatchTree → Type 0
AreSelectedRows c fs bs vs = selected_rows c (batch_rows fs bs) ≡ Some (batch_rows fs vs)

-- of all rows the same record batches
abbrev pub AreSelectedBatches : SelectionTree → List FieldTree → List RecordBatchTree → List RecordBatchTree → Type 0
AreSelectedBatches all fs bs vs = vs ≡ bs
AreSelectedBatches (slice o n) fs bs vs = AreSelectedRows (slice o n) fs bs vs
AreSelectedBatches (where_true condition) fs bs vs = AreSelectedRows (where_true condition) fs bs vs
AreSelectedBatches (indices places) fs bs vs = AreSelectedRows (indices places) fs bs vs

-- why no rows of record batches are selected
abbrev pub IsBatchSelectionError : CliError → SelectionTree → List FieldTree → List RecordBatchTree → Type 0
IsBatchSelectionError (Condition error) c fs bs = spec_selection_error c fs ≡ Some (Condition error)
IsBatchSelectionError (UnknownName i) c fs bs = ⊥
IsBatchSelectionError MismatchedColumns c fs bs = AllByRecursion Fits (map (batch_array fs) bs) → ⊥
IsBatchSelectionError IndexOutOfRange c fs bs = selected_rows c (batch_rows fs bs) ≡ None
IsBatchSelectionError (Read error) c fs bs = (error ≡ formats.Memory → ⊥) → ⊥
IsBatchSelectionError Memory c fs bs = Unit {0}
IsBatchSelectionError (Write why) c fs bs = ⊥
IsBatchSelectionError Input c fs bs = ⊥
IsBatchSelectionError Output c fs bs = ⊥
