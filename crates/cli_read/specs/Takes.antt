-- Rows of an input by index.
use Rattle.std.specs.Prelude.{◌≡◌, ◌⊎◌, ◌+◌, ℕ, List, Option, Some, None, Result, Ok}
use Rattle.ipc_flatbuf.specs.declared.error.IpcReadError as formats
use Rattle.ipc_flatbuf.specs.declared.error.IpcWriteError.{IpcWriteError}
use Rattle.ipc.specs.EncodedStreams.{IsErrorOrMemory}
use Rattle.ipc_schema.specs.Projections.{ProjectionModel}
use Rattle.cli_read.specs.Decoded.{Decoded}
use Rattle.cli_read.specs.ProjectedNames.{FollowsNames, HasNames, StopsForName}
use Rattle.cli_rows.specs.declared.error.BatchError.{BatchError}
use Rattle.cli_rows.specs.Selection.{selected_rows}
use Rattle.cli_read.specs.Comparisons.{IsBatchReadError}
use Rattle.cli_rows.specs.Compared.{table_rows}
use Rattle.cli_rows.specs.Encodings.{IsEncodingOf, write_refusal}
use Rattle.cli_rows.specs.Tables.{TableTree}
use Rattle.cli_rows.specs.Output.{HasTable, printed_text}
use Rattle.cli_rows.specs.RequestErrors.{IsRequestError}
use Rattle.cli_rows.specs.SelectedTables.{IsSelectedFrom}
use Rattle.cli_rows.specs.declared.error.CliError.{CliError}
use Rattle.cli_rows.specs.declared.error.CliError.TheVariants.{Write, IndexOutOfRange}
use Rattle.cli_args.specs.Requests.{indices, all, rows}
use Rattle.cli_args.specs.declared.format.Format as forms

-- the rows at the indices in the first record batches, with the same schema
abbrev pub Takes : List ℕ → Option Decoded → TableTree → Type 0
Takes wanted None t = Unit {0}
Takes wanted (Some s) t = (k : ℕ) × HasTable (s.first k) (λ h. IsSelectedFrom (indices wanted) h t)

-- an index is out of range
abbrev pub LacksRow : List ℕ → Result TableTree formats.IpcReadError → Type 0
LacksRow wanted read = HasTable read (λ h. selected_rows (indices wanted) (table_rows h) ≡ None)

-- All was decoded, and an index is out of range. Or an error occurred before any record batch, or in one after record batches in which an
-- index is out of range.
abbrev pub IsTakeError : List ℕ → Decoded → Option ℕ → CliError → Type 0
IsTakeError wanted s None IndexOutOfRange = LacksRow wanted s.whole
IsTakeError wanted s None error = IsBatchReadError error (s.first 0)
IsTakeError wanted s (Some k) error = IsBatchReadError error (s.first (k + 1)) × LacksRow wanted (s.first k)

abbrev pub FailsToTake : List ℕ → Option Decoded → BatchError → Type 0
FailsToTake wanted None stop = Unit {0}
FailsToTake wanted (Some s) stop = IsTakeError wanted s stop.batch stop.error

-- each projected name is that of a column, or the error has the first that is not
abbrev pub FailsToTakeColumns : ProjectionModel → List ℕ → Option Decoded → BatchError → Type 0
FailsToTakeColumns picks wanted x stop = (FailsToTake wanted x stop × FollowsNames picks x stop) ⊎ StopsForName picks x stop

-- ---- as text and as bytes

-- the text of the rows taken
abbrev pub TakesText : List ℕ → Option Decoded → List ℕ → Type 0
TakesText wanted x text = (t : TableTree) × Takes wanted x t × (printed_text (rows all) (Ok t) ≡ Some text)

-- or they are not taken, or have no text
abbrev pub FailsToTakeText : ProjectionModel → List ℕ → Option Decoded → BatchError → Type 0
FailsToTakeText picks wanted x stop = FailsToTakeColumns picks wanted x stop ⊎ ((t : TableTree) × Takes wanted x t × (stop.batch ≡ None) × IsRequestError stop.error (rows all) t × HasNames picks x)

-- the bytes decode to the rows taken
abbrev pub TakesBytes : forms.Format → List ℕ → Option Decoded → List ℕ → Type 0
TakesBytes form wanted x bytes = (t : TableTree) × Takes wanted x t × IsEncodingOf form t bytes

-- or they are not taken, or not written
abbrev pub FailsToTakeBytes : ProjectionModel → forms.Format → List ℕ → Option Decoded → BatchError → Type 0
FailsToTakeBytes picks form wanted x stop = FailsToTakeColumns picks wanted x stop ⊎ ((t : TableTree) × (why : IpcWriteError) × Takes wanted x t × (stop.batch ≡ None) × (stop.error ≡ Write why) × IsErrorOrMemory (write_refusal form t) why × HasNames picks x)
