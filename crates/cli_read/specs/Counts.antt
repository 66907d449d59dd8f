-- The number of rows of an input.
use Rattle.std.specs.Prelude.{◌≡◌, ◌⊎◌, ◌++◌, ◌+◌, ℕ, List, [], ◌∷◌, map, sum, take, Option, Some, None, Result, Ok, IsOk}
use Rattle.std.specs.Option.{option_map}
use Rattle.std.specs.Fmt.{decimal}
use Rattle.ipc_flatbuf.specs.ReadResults.{◌>>=◌}
use Rattle.ipc_flatbuf.specs.declared.error.IpcReadError.{IpcReadError}
use Rattle.nest_model.specs.Meaning.{first_len}
use Rattle.ipc_schema.specs.Projections.{ProjectionModel}
use Rattle.ipc.specs.Streams.{RecordBatchTree}
use Rattle.ipc_io.specs.FileMetadata.{file_metadata_in, row_counts_at}
use Rattle.ipc_io.specs.Seeks.{known}
use Rattle.cli_rows.specs.Output.{HasTable}
use Rattle.cli_rows.specs.Records.{side_by_side}
use Rattle.cli_rows.specs.Tables.{TableTree}
use Rattle.cli_rows.specs.declared.error.BatchError.{BatchError}
use Rattle.cli_rows.specs.declared.error.CliError.{CliError}
use Rattle.cli_rows.specs.declared.error.CliError.TheVariants.{Memory}
use Rattle.cli_read.specs.Decoded.{Decoded, stream_contents, table_with}
use Rattle.cli_read.specs.ProjectedNames.{FailsToOpenColumns, HasUnknown}
use Rattle.cli_read.specs.Remaining.{IsReadErrorOf}
use Rattle.cli_read.specs.declared.input.Input.{Input}
use Rattle.cli_read.specs.declared.input.Input.TheVariants.{File, Stream}

-- a record batch of which only the number of rows is read
abbrev pub rows_alone : ℕ → RecordBatchTree
rows_alone n = record { rows = n; columns = [] }

abbrev pub batches_of_counts : Result (List ℕ) IpcReadError → Result (List RecordBatchTree) IpcReadError
batches_of_counts counts = counts >>= λ ns. Ok (map rows_alone ns)

-- a file by its metadata: the schema of its footer, and the numbers of rows of its record batches
abbrev pub metadata_contents : ProjectionModel → List ℕ → Decoded
metadata_contents picks bytes = record {
  first = λ k. file_metadata_in picks bytes >>= λ m. table_with m.0 (batches_of_counts (row_counts_at bytes (take k m.1)));
  whole = file_metadata_in picks bytes >>= λ m. table_with m.0 (batches_of_counts (row_counts_at bytes m.1));
}

-- what is decoded of an input to count its rows: a stream, or the metadata of a file
module _ {R : Type 0} (remaining : R → Option (List ℕ)) (place : R → Option ℕ) (bytes : R → Option (List ℕ)) where
  abbrev pub counted_input : ProjectionModel → Input R → Option Decoded
  counted_input picks (Stream device) = option_map (stream_contents picks) (remaining device)
  counted_input picks (File device) = option_map (metadata_contents picks) (known (place device) (bytes device))

abbrev pub batch_row_counts : List RecordBatchTree → List ℕ
batch_row_counts batches = map (λ b. b.rows) batches

-- the number of rows of all record batches
abbrev pub total_rows : TableTree → ℕ
total_rows t = sum (batch_row_counts t.batches)

-- a record batch has as many rows as its first column
abbrev pub HasColumnOfRows : RecordBatchTree → Type 0
HasColumnOfRows b = first_len (side_by_side b.columns) ≡ b.rows

-- the number of rows as a line
abbrev pub count_text : ℕ → List ℕ
count_text n = decimal n ++ 10 ∷ []

-- this is the number of rows of all record batches
abbrev pub Counts : Option Decoded → ℕ → Type 0
Counts None n = Unit {0}
Counts (Some s) n = HasTable s.whole (λ t. n ≡ total_rows t)

-- the input was not opened; or this record batch was not read, those before it decode, and each projected name is that of a column
abbrev pub IsCountError : ProjectionModel → Decoded → Option ℕ → CliError → Type 0
IsCountError picks s None error = FailsToOpenColumns picks error (Some s)
IsCountError picks s (Some k) error = IsReadErrorOf error (s.first (k + 1)) × IsOk (s.first k) × HasUnknown picks None s

abbrev pub FailsToCount : ProjectionModel → Option Decoded → BatchError → Type 0
FailsToCount picks None stop = Unit {0}
FailsToCount picks (Some s) stop = IsCountError picks s stop.batch stop.error

-- the line of the number of rows
abbrev pub CountsText : Option Decoded → List ℕ → Type 0
CountsText x text = (n : ℕ) × Counts x n × (text ≡ count_text n)

-- or the rows were not counted, or an allocation failed
abbrev pub FailsToCountText : ProjectionModel → Option Decoded → BatchError → Type 0
FailsToCountText picks x stop = FailsToCount picks x stop ⊎ ((stop.batch ≡ None) × (stop.error ≡ Memory))
