-- Copies of an input.
use Rattle.std.specs.Prelude.{◌≡◌, ◌⊎◌, ◌≤◌, ◌+◌, ◌-◌, ◌^◌, ◌++◌, ℕ, List, [], length, Option, Some, None, Result, Ok, Err}
use Rattle.std.specs.List.{AllByRecursion}
use Rattle.std.specs.Io.KnownBytes.{Appends}
use Rattle.nest_model.specs.Fits.{Fits}
use Rattle.ipc_flatbuf.specs.ReadResults.{FailsOrRunsOut}
use Rattle.ipc_flatbuf.specs.declared.error.IpcReadError as formats
use Rattle.ipc_flatbuf.specs.declared.error.IpcWriteError.{IpcWriteError}
use Rattle.ipc_flatbuf.specs.declared.error.IpcWriteError.TheVariants.{Size}
use Rattle.ipc_schema.specs.Projections.{ProjectionModel}
use Rattle.ipc.specs.Streams.{RecordBatchTree}
use Rattle.ipc.specs.EncodedStreams.{IsErrorOrMemory}
use Rattle.ipc.specs.EncodedFiles.{encoded_file}
use Rattle.cli_rows.specs.ColumnNames.{spec_selection_error}
use Rattle.cli_read.specs.Decoded.{Decoded}
use Rattle.cli_read.specs.ProjectedNames.{FollowsNames, HasUnknown, StopsForName}
use Rattle.cli_rows.specs.declared.error.BatchError.{BatchError}
use Rattle.cli_rows.specs.Compared.{batch_arrays, table_rows}
use Rattle.cli_rows.specs.Encodings.{IsEncodingOf, write_refusal}
use Rattle.cli_rows.specs.Tables.{TableTree}
use Rattle.cli_rows.specs.Output.{HasTable}
use Rattle.cli_rows.specs.SelectedTables.{IsSelectedFrom}
use Rattle.cli_rows.specs.declared.error.CliError.{CliError}
use Rattle.cli_rows.specs.declared.error.CliError.TheVariants.{Input, Read, Write, MismatchedColumns, IndexOutOfRange, Condition, UnknownName, Output, Memory}
use Rattle.cli_args.specs.Requests.{SelectionTree, all, slice, indices, where_true}
use Rattle.cli_args.specs.declared.format.Format as forms
use Rattle.cli_args.specs.declared.format.Format.TheVariants.{File, Stream}

-- no further record batch is needed: the slice has all its rows
abbrev pub HasSelectedRows : SelectionTree → TableTree → Type 0
HasSelectedRows (slice o n) h = n ≤ length (table_rows h) - o
HasSelectedRows all h = ⊥
HasSelectedRows (where_true condition) h = ⊥
HasSelectedRows (indices places) h = ⊥

-- the selected rows with the same schema; of all rows the same record batches
abbrev pub IsCopy : SelectionTree → TableTree → TableTree → Type 0
IsCopy all h t = t ≡ h
IsCopy (slice o n) h t = IsSelectedFrom (slice o n) h t
IsCopy (where_true condition) h t = IsSelectedFrom (where_true condition) h t
IsCopy (indices places) h t = IsSelectedFrom (indices places) h t

-- bytes were written that decode to a copy
abbrev pub WritesCopy : SelectionTree → forms.Format → Result TableTree formats.IpcReadError → Option (List ℕ) → Option (List ℕ) → Type 0
WritesCopy c form read old new = HasTable read (λ h. (t : TableTree) × (bytes : List ℕ) × IsCopy c h t × IsEncodingOf form t bytes × Appends old new bytes)

-- the first record batches are all, or have all selected rows
abbrev pub HasSufficientBatches : SelectionTree → Decoded → ℕ → Type 0
HasSufficientBatches c s k = HasTable (s.first k) (λ h. (s.whole ≡ Ok h) ⊎ HasSelectedRows c h)

-- ---- errors

-- as a file it has 2^63 bytes or more
abbrev pub IsTooLong : forms.Format → TableTree → IpcWriteError → Type 0
IsTooLong Stream t why = ⊥
IsTooLong File t why = (why ≡ Size) × (2 ^ 63 ≤ length (encoded_file t.schema t.batches))

-- the first reason why it cannot be written
abbrev pub IsWriteRefusal : forms.Format → TableTree → IpcWriteError → Type 0
IsWriteRefusal form t why = IsErrorOrMemory (write_refusal form t) why ⊎ IsTooLong form t why

-- record batches after others
abbrev pub after_batches : List RecordBatchTree → TableTree → TableTree
after_batches front t = record { schema = t.schema; batches = front ++ t.batches }

-- The first error of the bytes, or of the selection; the columns do not match the schema; or a copy cannot be written after record
-- batches that were written before. Or reading or writing failed, or an allocation.
abbrev pub IsCopyError : CliError → SelectionTree → forms.Format → List RecordBatchTree → Result TableTree formats.IpcReadError → Type 0
IsCopyError (Read error) c form front read = FailsOrRunsOut error read
IsCopyError (Write why) c form front read = HasTable read (λ h. (t : TableTree) × IsCopy c h t × IsWriteRefusal form (after_batches front t) why)
IsCopyError (Condition error) c form front read = HasTable read (λ h. spec_selection_error c h.schema.fields ≡ Some (Condition error))
IsCopyError (UnknownName i) c form front read = ⊥
IsCopyError MismatchedColumns c form front read = HasTable read (λ h. AllByRecursion Fits (batch_arrays h) → ⊥)
IsCopyError IndexOutOfRange c form front read = ⊥
IsCopyError Memory c form front read = Unit {0}
IsCopyError Input c form front read = Unit {0}
IsCopyError Output c form front read = Unit {0}

-- The error occurred before any record batch; or in one after record batches that are not sufficient; or after sufficient ones.
abbrev pub FailsWhileCopying : SelectionTree → forms.Format → List RecordBatchTree → Decoded → Option ℕ → CliError → Type 0
FailsWhileCopying c form front s None error = IsCopyError error c form front (s.first 0)
FailsWhileCopying c form front s (Some k) error = (IsCopyError error c form front (s.first (k + 1)) × HasTable (s.first k) (λ h. HasSelectedRows c h → ⊥)) ⊎ (IsCopyError error c form front (s.first k) × HasSufficientBatches c s k)

-- A copy of the first record batches was written: of all, or of sufficient ones. Or an error occurred.
abbrev pub Copies : {W : Type 0} → (W → Option (List ℕ)) → forms.Format → SelectionTree → Option Decoded → W → Result W BatchError → Type 0
Copies contents form c None start result = Unit {0}
Copies contents form c (Some s) start (Ok end) = (k : ℕ) × WritesCopy c form (s.first k) (contents start) (contents end) × HasSufficientBatches c s k
Copies contents form c (Some s) start (Err stop) = FailsWhileCopying c form [] s stop.batch stop.error

-- the same of projected columns: each projected name is that of a column, or the first that is not is the error
abbrev pub CopiesColumns : {W : Type 0} → (W → Option (List ℕ)) → ProjectionModel → forms.Format → SelectionTree → Option Decoded → W → Result W BatchError → Type 0
CopiesColumns contents picks form c None start result = Unit {0}
CopiesColumns contents picks form c (Some s) start (Ok end) = Copies contents form c (Some s) start (Ok end) × HasUnknown picks None s
CopiesColumns contents picks form c (Some s) start (Err stop) = (Copies contents form c (Some s) start (Err stop) × FollowsNames picks (Some s) stop) ⊎ StopsForName picks (Some s) stop
