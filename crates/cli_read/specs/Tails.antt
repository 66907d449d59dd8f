-- The last rows of an input.
use Rattle.std.specs.Prelude.{◌≡◌, ◌⊎◌, ◌≤◌, ◌+◌, ◌-◌, ℕ, List, length, take, drop, Option, Some, None, Result, Ok}
use Rattle.std.specs.Option.{option_map}
use Rattle.ipc_flatbuf.specs.ReadResults.{◌>>=◌, FailsOrRunsOut}
use Rattle.ipc_flatbuf.specs.declared.error.IpcReadError.{IpcReadError}
use Rattle.ipc_schema.specs.Projections.{ProjectionModel}
use Rattle.ipc_schema.specs.declared.footer.types.Block.{Block}
use Rattle.ipc.specs.Files.{SliceFileReaderTree, batches_at, file_reader_in}
use Rattle.ipc_io.specs.Seeks.{known}
use Rattle.cli_rows.specs.Output.{HasTable}
use Rattle.cli_rows.specs.Rows.{RowSlot}
use Rattle.cli_rows.specs.Tables.{MatchesSchema, TableTree, record_rows}
use Rattle.cli_rows.specs.Text.{text_of_rows}
use Rattle.cli_rows.specs.declared.error.BatchError.{BatchError}
use Rattle.cli_rows.specs.declared.error.CliError.{CliError}
use Rattle.cli_rows.specs.declared.error.CliError.TheVariants.{Input as InputError, MismatchedColumns, Memory, Read}
use Rattle.cli_read.specs.Decoded.{Decoded, stream_contents, table_with}
use Rattle.cli_read.specs.ProjectedNames.{FailsToOpenColumns, HasNames}
use Rattle.cli_read.specs.declared.input.Input.{Input}
use Rattle.cli_read.specs.declared.input.Input.TheVariants.{File, Stream}

-- the last items, so many at most
abbrev pub last : {A : Type 0} → ℕ → List A → List A
last n xs = drop (length xs - n) xs

-- What is decoded of an input for its last rows: the record batches from an index on, and what the record batch at an index is decoded
-- from.
pub record Ends : Type 0 where
  pub from : ℕ → Result TableTree IpcReadError
  pub at : ℕ → Result TableTree IpcReadError

-- of a stream all record batches, and those up to an index
abbrev pub stream_ends : Decoded → Ends
stream_ends s = record { from = λ k. s.whole; at = λ k. s.first (k + 1) }

-- record batches of a file as a table
abbrev pub file_part : (List Block → List Block) → Result SliceFileReaderTree IpcReadError → Result TableTree IpcReadError
file_part part reader = reader >>= λ r. table_with r.state.picked.schema (batches_at r.state r.bytes (part r.blocks))

-- of a file the record batches from an index on, and the one at an index
abbrev pub file_ends : Result SliceFileReaderTree IpcReadError → Ends
file_ends reader = record { from = λ k. file_part (drop k) reader; at = λ k. file_part (λ blocks. take 1 (drop k blocks)) reader }

module _ {R : Type 0} (remaining : R → Option (List ℕ)) (place : R → Option ℕ) (bytes : R → Option (List ℕ)) where
  abbrev pub input_ends : ProjectionModel → Input R → Option Ends
  input_ends picks (Stream device) = option_map (λ xs. stream_ends (stream_contents picks xs)) (remaining device)
  input_ends picks (File device) = option_map (λ xs. file_ends (file_reader_in picks xs)) (known (place device) (bytes device))

-- the record batches are all, or have so many rows
abbrev pub HasEnough : ℕ → ℕ → TableTree → Type 0
HasEnough n k t = (k ≡ 0) ⊎ (n ≤ length (record_rows t))

-- the last rows of the record batches from an index on, which are all or have enough rows
abbrev pub AreLastRows : ℕ → Option Ends → List RowSlot → Type 0
AreLastRows n None found = Unit {0}
AreLastRows n (Some ends) found = (k : ℕ) × HasTable (ends.from k) (λ t. HasEnough n k t × (found ≡ last n (record_rows t)))

-- the last rows that are found are those of the decoded table
abbrev pub AreLastOfTable : Decoded → Ends → Type 0
AreLastOfTable s ends = (n : ℕ) (h : TableTree) (found : List RowSlot) → s.whole ≡ Ok h → AreLastRows n (Some ends) found → found ≡ last n (record_rows h)

-- the last rows as lines
abbrev pub IsLastText : ℕ → Option Ends → List ℕ → Type 0
IsLastText n ends text = (found : List RowSlot) × AreLastRows n ends found × (text ≡ text_of_rows found)

-- why a record batch has no rows that are printed: reading failed; it is the first error of the bytes; the columns do not match the schema;
-- or an allocation failed
abbrev pub IsRecordsError : CliError → Result TableTree IpcReadError → Type 0
IsRecordsError InputError read = Unit {0}
IsRecordsError (Read error) read = FailsOrRunsOut error read
IsRecordsError MismatchedColumns read = HasTable read (λ t. MatchesSchema t → ⊥)
IsRecordsError Memory read = Unit {0}
IsRecordsError error read = ⊥

-- the input was not opened, or an allocation failed; or this record batch has no rows that are printed
abbrev pub IsTailError : ProjectionModel → Option Decoded → Ends → Option ℕ → CliError → Type 0
IsTailError picks x ends None error = FailsToOpenColumns picks error x ⊎ (error ≡ Memory)
IsTailError picks x ends (Some k) error = IsRecordsError error (ends.at k) × HasNames picks x

abbrev pub FailsToTail : ProjectionModel → Option Decoded → Option Ends → BatchError → Type 0
FailsToTail picks x None stop = Unit {0}
FailsToTail picks x (Some ends) stop = IsTailError picks x ends stop.batch stop.error
