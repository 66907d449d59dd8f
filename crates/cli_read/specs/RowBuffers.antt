-- Rows that are read and not yet compared.
use Rattle.std.specs.Prelude.{◌≡◌, ◌⊎◌, ◌≤◌, ◌<◌, ◌+◌, ◌^◌, ℕ, Bool, true, false, List, [], ◌++◌, length, take, drop, Option, Some, None, Result, Ok, Err}
use Rattle.std.specs.Option.{option_map}
use Rattle.ipc_flatbuf.specs.ReadResults.{◌>>=◌}
use Rattle.ipc_flatbuf.specs.declared.error.IpcReadError as formats
use Rattle.ipc_schema.specs.Schemas.{SchemaModel}
use Rattle.ipc.specs.Streams.{RecordBatchTree}
use Rattle.nest_model.specs.Layout.{Layout}
use Rattle.nest_model.specs.Meaning.{len}
use Rattle.nest_array.specs.Seen.{layout_of}
use Rattle.cli_read.specs.Decoded.{table_with}
use Rattle.cli_rows.specs.declared.error.BatchError.{BatchError}
use Rattle.cli_rows.specs.Difference.{IsDifference}
use Rattle.cli_rows.specs.Rows.{RowSlot, rows_of}
use Rattle.cli_rows.specs.Compared.{batch_array, table_rows}
use Rattle.cli_rows.specs.Tables.{TableTree}
use Rattle.cli_rows.specs.Output.{HasTable}
use Rattle.cli_rows.specs.declared.difference.Difference.TheVariants.{Row as ARow}
use Rattle.cli_rows.specs.declared.error.CliError.{CliError}
use Rattle.cli_read.specs.Remaining.{Remaining, Advances, with_schema}
use Rattle.cli_read.specs.Readers.{reader_schema, remaining_batches}
use Rattle.cli_read.specs.Comparisons.{ComparesInputs, IsBatchReadError}
use Rattle.cli_read.specs.declared.reader.BatchReader.{BatchReader}
use Rattle.cli_read.specs.declared.comparison.inputs.Comparison.{Comparison}
use Rattle.cli_read.specs.declared.comparison.inputs.Comparison.TheVariants.{Equal, Decided}
use Rattle.cli_read.specs.declared.comparison.inputs.Step.{Step}
use Rattle.cli_read.specs.declared.comparison.inputs.Step.TheVariants.{Continue, Done}
use Rattle.cli_read.specs.declared.comparison.inputs.CompareError.{CompareError}
use Rattle.cli_read.specs.declared.comparison.inputs.CompareError.TheVariants.{TooManyRows}
use Rattle.cli_read.specs.declared.comparison.buffer.RowBuffer.{RowBuffer}

-- ---- the next rows

-- the rows of the next record batch, or there is none
abbrev pub ReturnsRows : SchemaModel → Option Remaining → Option Remaining → Option Layout → Type 0
ReturnsRows s None new rows = Unit {0}
ReturnsRows s (Some old) None rows = ⊥
ReturnsRows s (Some old) (Some new) None = Advances old new None
ReturnsRows s (Some old) (Some new) (Some a) = (b : RecordBatchTree) × (a ≡ batch_array s.fields b) × Advances old new (Some b)

abbrev pub FailsRows : SchemaModel → CliError → Option Remaining → Type 0
FailsRows s error None = Unit {0}
FailsRows s error (Some old) = IsBatchReadError error (table_with s (old.first 1))

module _ {R : Type 0} (remaining : R → Option (List ℕ)) (position : R → Option ℕ) (bytes : R → Option (List ℕ)) where
  -- those of the next record batch of a reader
  abbrev pub ReturnsNextRows : BatchReader R → BatchReader R → Option Layout → Type 0
  ReturnsNextRows old new rows = ReturnsRows (reader_schema old) (remaining_batches remaining position bytes old) (remaining_batches remaining position bytes new) rows

-- ---- one input

abbrev pub IsInBounds : {R : Type 0} → RowBuffer R → Type 0
IsInBounds p = p.from ≤ len (layout_of p.rows)

abbrev pub buffered_rows : {R : Type 0} → RowBuffer R → List RowSlot
buffered_rows p = drop p.from (rows_of (layout_of p.rows))

-- so many rows were compared
abbrev pub advanced : {R : Type 0} → RowBuffer R → ℕ → RowBuffer R
advanced p n = record { reader = p.reader; read = p.read; is_over = p.is_over; rows = p.rows; from = p.from + n }

-- there is a row, or there is no further record batch
abbrev pub IsFilled : {R : Type 0} → RowBuffer R → Type 0
IsFilled p = (0 < length (buffered_rows p)) ⊎ (p.is_over ≡ true)

-- record batches before others
abbrev pub prepended : List RecordBatchTree → Result (List RecordBatchTree) formats.IpcReadError → Result (List RecordBatchTree) formats.IpcReadError
prepended bs others = others >>= λ more. Ok (bs ++ more)

-- so many record batches were read, and these remain
pub record IsAfter (t : Remaining) (k : ℕ) (bs : List RecordBatchTree) (u : Remaining) : Type 0 where
  pub first : (m : ℕ) → t.first (k + m) ≡ prepended bs (u.first m)
  pub whole : t.whole ≡ prepended bs u.whole
  pub none : u.first 0 ≡ Ok []

-- or they are all
abbrev pub IsPosition : Remaining → Bool → ℕ → List RecordBatchTree → Option Remaining → Type 0
IsPosition t true k bs u = (t.first k ≡ Ok bs) × (t.whole ≡ Ok bs)
IsPosition t false k bs None = ⊥
IsPosition t false k bs (Some u) = IsAfter t k bs u

abbrev pub table_of_batches : SchemaModel → List RecordBatchTree → TableTree
table_of_batches s bs = record { schema = s; batches = bs }

-- the rows of the record batches read are those compared, then those buffered
pub record IsBufferState (t : Remaining) (s : SchemaModel) (done : List RowSlot) (is_over : Bool) (read : ℕ) (rows : List RowSlot) (left : Option Remaining) : Type 0 where
  pub batches : List RecordBatchTree
  pub at : IsPosition t is_over read batches left
  pub are_rows : table_rows (table_of_batches s batches) ≡ done ++ rows

abbrev pub BufferState : Option Remaining → SchemaModel → List RowSlot → Bool → ℕ → List RowSlot → Option Remaining → Type 0
BufferState None s done is_over read rows left = Unit {0}
BufferState (Some t) s done is_over read rows left = IsBufferState t s done is_over read rows left

abbrev pub HasBuffered : {R : Type 0} → Option Remaining → SchemaModel → List RowSlot → Option Remaining → RowBuffer R → Type 0
HasBuffered t s done left p = BufferState t s done p.is_over p.read (buffered_rows p) left

-- the record batch after so many, whose rows were compared, was not read
abbrev pub FailsAfterRows : Remaining → SchemaModel → List RowSlot → Option ℕ → CliError → Type 0
FailsAfterRows t s done None error = ⊥
FailsAfterRows t s done (Some k) error = IsBatchReadError error (table_with s (t.first (k + 1))) × HasTable (table_with s (t.first k)) (λ h. (h.schema ≡ s) × (table_rows h ≡ done))

abbrev pub IsRowBufferError : Option Remaining → SchemaModel → List RowSlot → BatchError → Type 0
IsRowBufferError None s done stop = Unit {0}
IsRowBufferError (Some t) s done stop = FailsAfterRows t s done stop.batch stop.error

-- ---- both inputs

-- the row at an index is there, or there is none and the index is 0
abbrev pub IsReached : ℕ → List RowSlot → Type 0
IsReached k rows = (k < length rows) ⊎ ((k ≡ 0) × (rows ≡ []))

-- so many rows of both are equal; or there is none; or they first differ at this index
abbrev pub ComparesBuffers : List RowSlot → List RowSlot → Comparison → Type 0
ComparesBuffers xs ys (Equal n) = (n ≤ length xs) × (n ≤ length ys) × (take n xs ≡ take n ys)
ComparesBuffers xs ys (Decided None) = (xs ≡ []) × (ys ≡ [])
ComparesBuffers xs ys (Decided (Some k)) = IsDifference xs ys (Some k) × IsReached k xs × IsReached k ys

-- the difference at an index after so many rows, if 64 bits count it
abbrev pub IsDifferenceAt : ℕ → Option ℕ → Result Step CompareError → Type 0
IsDifferenceAt rows None result = result ≡ Ok (Done None)
IsDifferenceAt rows (Some k) result = ((rows + k < 2 ^ 64) × (result ≡ Ok (Done (Some (ARow (rows + k)))))) ⊎ ((2 ^ 64 ≤ rows + k) × (result ≡ Err TooManyRows))

-- so many rows were compared, and they are equal
abbrev pub BothBuffered : {R S : Type 0} → Option Remaining → Option Remaining → SchemaModel → ℕ → Option Remaining → Option Remaining → RowBuffer R → RowBuffer S → Type 0
BothBuffered t u s rows v w p q = (done : List RowSlot) × (length done ≡ rows) × HasBuffered t s done v p × HasBuffered u s done w q

-- the comparison continues, or this is its result
abbrev pub IsStep : Option Remaining → Option Remaining → SchemaModel → Result Step CompareError → Type 0 → Type 0
IsStep t u s (Ok Continue) Next = Next
IsStep t u s (Ok (Done difference)) Next = ComparesInputs (option_map (with_schema s) t) (option_map (with_schema s) u) (Ok difference)
IsStep t u s (Err why) Next = ComparesInputs (option_map (with_schema s) t) (option_map (with_schema s) u) (Err why)
