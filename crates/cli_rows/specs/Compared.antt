-- Differences of tables.
use Rattle.std.specs.Prelude.{◌≡◌, ◌++◌, ℕ, List, [], ◌∷◌, map, codes, Option, Some, None, Result}
use Rattle.std.specs.Fmt.{decimal}
use Rattle.std.specs.List.{AllByRecursion, flat_map}
use Rattle.nest_memory.specs.TypeTree as types
use Rattle.nest_memory.specs.TypeTree.{FieldTree}
use Rattle.nest_model.specs.Fits.{Fits}
use Rattle.nest_model.specs.Layout as layouts
use Rattle.nest_model.specs.Layout.{Layout}
use Rattle.ipc_flatbuf.specs.ReadResults.{FailsOrRunsOut}
use Rattle.ipc_flatbuf.specs.declared.error.IpcReadError as formats
use Rattle.ipc.specs.Streams.{RecordBatchTree}
use Rattle.cli_rows.specs.Rows.{RowSlot, rows_of}
use Rattle.cli_rows.specs.Difference.{IsDifference}
use Rattle.cli_rows.specs.Records.{record_type, records}
use Rattle.cli_rows.specs.declared.error.CliError.{CliError}
use Rattle.cli_rows.specs.declared.difference.Difference.{Difference}
use Rattle.cli_rows.specs.declared.difference.Difference.TheVariants.{Schema, Row as ARow}
use Rattle.cli_rows.specs.declared.error.CliError.TheVariants.{Read, MismatchedColumns, Memory}
use Rattle.cli_rows.specs.Tables.{TableTree}
use Rattle.cli_rows.specs.Output.{HasTable}

-- ---- rows

-- a record batch as one array: records of its columns, or without a column as many nulls as it has rows
abbrev pub batch_array : List FieldTree → RecordBatchTree → Layout
batch_array [] b = layouts.null types.null b.rows
batch_array (f ∷ fs) b = records (record_type (f ∷ fs)) b.columns

abbrev pub batch_arrays : TableTree → List Layout
batch_arrays h = map (batch_array h.schema.fields) h.batches

-- the rows of all record batches
abbrev pub table_rows : TableTree → List RowSlot
table_rows h = flat_map rows_of (batch_arrays h)

-- ---- differences

-- equal schemas and rows; or different schemas; or equal schemas and rows that differ first at this index
abbrev pub IsTableDifference : TableTree → TableTree → Option Difference → Type 0
IsTableDifference s t None = (s.schema ≡ t.schema) × (table_rows s ≡ table_rows t)
IsTableDifference s t (Some Schema) = s.schema ≡ t.schema → ⊥
IsTableDifference s t (Some (ARow k)) = (s.schema ≡ t.schema) × IsDifference (table_rows s) (table_rows t) (Some k)

-- the line that is printed of a difference
abbrev pub spec_difference_text : Difference → List ℕ
spec_difference_text Schema = codes "schema" ++ 10 ∷ []
spec_difference_text (ARow k) = codes "row " ++ (decimal k ++ 10 ∷ [])

-- the difference of two inputs that were decoded
abbrev pub ComparesTables : Result TableTree formats.IpcReadError → Result TableTree formats.IpcReadError → Option Difference → Type 0
ComparesTables left right difference = HasTable left (λ s. HasTable right (λ t. IsTableDifference s t difference))

-- ---- errors

-- why an input has no rows: the first error of its bytes; the columns of a batch do not match the schema; or an allocation failed
abbrev pub IsRowsError : CliError → Result TableTree formats.IpcReadError → Type 0
IsRowsError (Read error) read = FailsOrRunsOut error read
IsRowsError MismatchedColumns read = HasTable read (λ h. AllByRecursion Fits (batch_arrays h) → ⊥)
IsRowsError Memory read = Unit {0}
IsRowsError error read = ⊥
