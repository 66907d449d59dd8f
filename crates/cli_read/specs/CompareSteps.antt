-- Steps of comparing two inputs.
use Rattle.std.specs.Prelude.{◌≡◌, ℕ, Bool, List, [], Option, Result}
use Rattle.std.specs.Option.{option_map}
use Rattle.ipc_schema.specs.Schemas.{SchemaModel}
use Rattle.cli_rows.specs.Rows.{RowSlot}
use Rattle.cli_rows.specs.declared.difference.Difference.{Difference}
use Rattle.cli_rows.specs.declared.error.BatchError.{BatchError}
use Rattle.cli_read.specs.Comparisons.{ComparesInputs}
use Rattle.cli_read.specs.Readers.{reader_schema, remaining_batches}
use Rattle.cli_read.specs.Remaining.{Remaining, with_schema}
use Rattle.cli_read.specs.RowBuffers.{BothBuffered, HasBuffered, IsRowBufferError, IsStep}
use Rattle.cli_read.specs.declared.comparison.buffer.RowBuffer.{RowBuffer}
use Rattle.cli_read.specs.declared.comparison.inputs.CompareError.{CompareError}
use Rattle.cli_read.specs.declared.comparison.inputs.Step.{Step}

module _ {R : Type 0} (remaining : R → Option (List ℕ)) (place : R → Option ℕ) (bytes : R → Option (List ℕ)) where
  -- the buffer has the same rows, or those of the next record batch
  abbrev pub FillsBuffer : RowBuffer R → RowBuffer R → Bool → Type 0
  FillsBuffer old new moved =
      (t : Option Remaining) (done : List RowSlot) → HasBuffered t (reader_schema old.reader) done (remaining_batches remaining place bytes old.reader) old
      → HasBuffered t (reader_schema old.reader) done (remaining_batches remaining place bytes new.reader) new

  -- or this is the error of the next record batch
  abbrev pub FailsToFill : RowBuffer R → BatchError → Type 0
  FailsToFill old e =
      (t : Option Remaining) (done : List RowSlot) → HasBuffered t (reader_schema old.reader) done (remaining_batches remaining place bytes old.reader) old
      → IsRowBufferError t (reader_schema old.reader) done e

  -- all rows of one side are read, which are those of the other
  abbrev pub ReadsAll : RowBuffer R → Result (Option Difference) CompareError → Type 0
  ReadsAll side result =
      (t : Option Remaining) (s : SchemaModel) → reader_schema side.reader ≡ s → HasBuffered t s [] (remaining_batches remaining place bytes side.reader) side
      → ComparesInputs (option_map (with_schema s) t) (option_map (with_schema s) t) result

module _ {R S : Type 0} (remaining : R → Option (List ℕ)) (place : R → Option ℕ) (bytes : R → Option (List ℕ)) (remaining_s : S → Option (List ℕ)) (place_s : S → Option ℕ) (bytes_s : S → Option (List ℕ)) where
  -- from so many equal rows of both sides more of them, or the result
  abbrev pub ComparesNext : RowBuffer R → RowBuffer S → ℕ → RowBuffer R → RowBuffer S → ℕ → Result Step CompareError → Type 0
  ComparesNext left right rows new_left new_right new_rows result =
      (t u : Option Remaining) (s : SchemaModel) → reader_schema left.reader ≡ s → reader_schema right.reader ≡ s
      → BothBuffered t u s rows (remaining_batches remaining place bytes left.reader) (remaining_batches remaining_s place_s bytes_s right.reader) left right
      → IsStep t u s result (BothBuffered t u s new_rows (remaining_batches remaining place bytes new_left.reader) (remaining_batches remaining_s place_s bytes_s new_right.reader) new_left new_right)

  -- from no row of either side the result
  abbrev pub ComparesAll : RowBuffer R → RowBuffer S → Result (Option Difference) CompareError → Type 0
  ComparesAll left right result =
      (t u : Option Remaining) (s : SchemaModel) → reader_schema left.reader ≡ s → reader_schema right.reader ≡ s
      → HasBuffered t s [] (remaining_batches remaining place bytes left.reader) left → HasBuffered u s [] (remaining_batches remaining_s place_s bytes_s right.reader) right
      → ComparesInputs (option_map (with_schema s) t) (option_map (with_schema s) u) result
