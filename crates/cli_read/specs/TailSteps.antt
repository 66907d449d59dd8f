-- Steps of finding the last rows of an input.
use Rattle.std.specs.Prelude.{◌≡◌, ◌+◌, ℕ, List, reverse, take, drop, Option, Some, None, Result, Ok}
use Rattle.std.specs.Option.{option_map}
use Rattle.nest_model.specs.Layout.{Layout}
use Rattle.nest_array.specs.declared.any.AnyArray.{AnyArray}
use Rattle.ipc_flatbuf.specs.declared.error.IpcReadError.{IpcReadError}
use Rattle.ipc_schema.specs.Projections.{ProjectionModel}
use Rattle.ipc_schema.specs.Schemas.{SchemaModel}
use Rattle.ipc_schema.specs.declared.footer.types.Block.{Block}
use Rattle.ipc.specs.Files.{SliceFileReaderTree, file_reader_in}
use Rattle.ipc.specs.Streams.{RecordBatchTree}
use Rattle.ipc_io.specs.FileReaders.{FileReaderTree, of_bytes}
use Rattle.ipc_io.specs.Seeks.{bytes_of}
use Rattle.cli_rows.specs.Output.{HasTable}
use Rattle.cli_rows.specs.Records.{record_type, records}
use Rattle.cli_rows.specs.Rows.{RowSlot, rows_of, rows_of_arrays}
use Rattle.cli_rows.specs.Tables.{TableTree, record_rows}
use Rattle.cli_rows.specs.declared.error.BatchError.{BatchError}
use Rattle.cli_rows.specs.declared.error.CliError.{CliError}
use Rattle.cli_rows.specs.declared.error.CliError.TheVariants.{Memory}
use Rattle.cli_read.specs.Decoded.{table_with}
use Rattle.cli_read.specs.Readers.{reader_schema, remaining_batches}
use Rattle.cli_read.specs.Remaining.{Advances, Remaining}
use Rattle.cli_read.specs.Tails.{HasEnough, IsRecordsError, file_part, last}
use Rattle.cli_read.specs.declared.reader.BatchReader.{BatchReader}

-- the rows of arrays in reverse order
abbrev pub rows_reversed : List AnyArray → List RowSlot
rows_reversed arrays = rows_of_arrays (reverse arrays)

-- a record batch as records of its columns
abbrev pub batch_records_of : SchemaModel → RecordBatchTree → Layout
batch_records_of s b = records (record_type s.fields) b.columns

-- these are the records of the next record batch, or there is none
abbrev pub ReturnsRecords : SchemaModel → Option Remaining → Option Remaining → Option Layout → Type 0
ReturnsRecords s None new a = Unit {0}
ReturnsRecords s (Some old) None a = ⊥
ReturnsRecords s (Some old) (Some new) None = Advances old new None
ReturnsRecords s (Some old) (Some new) (Some a) = (b : RecordBatchTree) × (a ≡ batch_records_of s b) × Advances old new (Some b)

abbrev pub FailsRecords : SchemaModel → CliError → Option Remaining → Type 0
FailsRecords s error None = Unit {0}
FailsRecords s error (Some old) = IsRecordsError error (table_with s (old.first 1))

-- an allocation failed at the end, or the record batch at an index has no rows that are printed
abbrev pub IsEndError : (ℕ → Result TableTree IpcReadError) → Option ℕ → CliError → Type 0
IsEndError at None error = error ≡ Memory
IsEndError at (Some k) error = IsRecordsError error (at k)

-- the last rows of all remaining record batches
abbrev pub AreLastOf : ℕ → SchemaModel → Option Remaining → List RowSlot → Type 0
AreLastOf n s None found = Unit {0}
AreLastOf n s (Some t) found = HasTable (table_with s t.whole) (λ h. found ≡ last n (record_rows h))

abbrev pub FailsOn : SchemaModel → Option Remaining → BatchError → Type 0
FailsOn s None stop = Unit {0}
FailsOn s (Some t) stop = IsEndError (λ k. table_with s (t.first (k + 1))) stop.batch stop.error

module _ {R : Type 0} (remaining : R → Option (List ℕ)) (position : R → Option ℕ) (bytes : R → Option (List ℕ)) where
  abbrev pub ReturnsNextRecords : BatchReader R → BatchReader R → Option Layout → Type 0
  ReturnsNextRecords old new a = ReturnsRecords (reader_schema old) (remaining_batches remaining position bytes old) (remaining_batches remaining position bytes new) a

  abbrev pub ReadsOn : ℕ → BatchReader R → List RowSlot → Type 0
  ReadsOn n reader found = AreLastOf n (reader_schema reader) (remaining_batches remaining position bytes reader) found

  abbrev pub FailsToReadOn : BatchReader R → BatchError → Type 0
  FailsToReadOn reader stop = FailsOn (reader_schema reader) (remaining_batches remaining position bytes reader) stop

-- ---- files

-- the record batch at an index
abbrev pub one_at : ℕ → List Block → List Block
one_at k blocks = take 1 (drop k blocks)

-- of a file whose bytes are known: the records of the record batch at an index
abbrev pub AreRecordsAt : ℕ → Option SliceFileReaderTree → Layout → Type 0
AreRecordsAt k None a = Unit {0}
AreRecordsAt k (Some r) a = HasTable (file_part (one_at k) (Ok r)) (λ t. record_rows t ≡ rows_of a)

abbrev pub FailsAt : ℕ → Option SliceFileReaderTree → CliError → Type 0
FailsAt k None error = Unit {0}
FailsAt k (Some r) error = IsRecordsError error (file_part (one_at k) (Ok r))

-- the last rows of the record batches from an index on, which are all or have enough rows
abbrev pub AreLastFrom : ℕ → Option SliceFileReaderTree → List RowSlot → Type 0
AreLastFrom n None found = Unit {0}
AreLastFrom n (Some r) found = (k : ℕ) × HasTable (file_part (drop k) (Ok r)) (λ t. HasEnough n k t × (found ≡ last n (record_rows t)))

abbrev pub FailsBack : Option SliceFileReaderTree → BatchError → Type 0
FailsBack None stop = Unit {0}
FailsBack (Some r) stop = IsEndError (λ k. file_part (one_at k) (Ok r)) stop.batch stop.error

-- the file is opened as this reader
abbrev pub IsFileReader : Option (Result SliceFileReaderTree IpcReadError) → Option SliceFileReaderTree → Type 0
IsFileReader None r = Unit {0}
IsFileReader (Some read) None = ⊥
IsFileReader (Some read) (Some r) = read ≡ Ok r

module _ {R : Type 0} (position : R → Option ℕ) (bytes : R → Option (List ℕ)) where
  -- a reader as one of its bytes in memory, where they are known
  abbrev pub slice_reader_of : FileReaderTree R → Option SliceFileReaderTree
  slice_reader_of r = option_map (λ xs. of_bytes xs r) (bytes_of position bytes r.inner)

  abbrev pub HasFileReader : ProjectionModel → R → FileReaderTree R → Type 0
  HasFileReader picks device r = IsFileReader (option_map (file_reader_in picks) (bytes_of position bytes device)) (slice_reader_of r)

  abbrev pub ReadsRecords : ℕ → FileReaderTree R → Layout → Type 0
  ReadsRecords k r a = AreRecordsAt k (slice_reader_of r) a

  abbrev pub FailsToReadRecords : ℕ → FileReaderTree R → CliError → Type 0
  FailsToReadRecords k r error = FailsAt k (slice_reader_of r) error

  abbrev pub ReadsBack : ℕ → FileReaderTree R → List RowSlot → Type 0
  ReadsBack n r found = AreLastFrom n (slice_reader_of r) found

  abbrev pub FailsToReadBack : FileReaderTree R → BatchError → Type 0
  FailsToReadBack r stop = FailsBack (slice_reader_of r) stop
