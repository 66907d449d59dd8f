-- Inputs concatenated.
use Rattle.std.specs.Prelude.{◌≡◌, ◌⊎◌, ◌++◌, ℕ, List, [], Option, Some, None, Ok}
use Rattle.std.specs.Io.KnownBytes.{Appends}
use Rattle.ipc.specs.Streams.{RecordBatchTree}
use Rattle.ipc_schema.specs.Projections.{ProjectionModel}
use Rattle.ipc_schema.specs.Schemas.{SchemaModel}
use Rattle.cli_read.specs.Decoded.{Decoded}
use Rattle.cli_read.specs.ProjectedNames.{FollowsNames, HasNames, StopsForName}
use Rattle.cli_read.specs.Remaining.{Remaining}
use Rattle.cli_rows.specs.Concatenated.{DecodedTables, EncodesConcatenation}
use Rattle.cli_rows.specs.Output.{HasTable}
use Rattle.cli_args.specs.Requests.{all}
use Rattle.cli_args.specs.declared.format.Format as forms
use Rattle.cli_write.specs.Copies.{FailsWhileCopying}
use Rattle.cli_write.specs.Writers.{HasWritten}
use Rattle.cli_write.specs.declared.concat.AppendError.{AppendError}
use Rattle.cli_write.specs.declared.concat.AppendError.TheVariants.{Schema, Batch}
use Rattle.cli_write.specs.declared.writer.BatchWriter.{BatchWriter}

module _ {W : Type 0} (contents : W → Option (List ℕ)) where
  -- all record batches of an input were written, with its schema
  abbrev pub WritesFirst : forms.Format → Option Decoded → W → BatchWriter W → Type 0
  WritesFirst form None start writer = Unit {0}
  WritesFirst form (Some x) start writer = HasTable x.whole (λ h. HasWritten contents form start h.schema h.batches writer)

  -- they were written after others, and the schemas are equal
  abbrev pub AppendsInput : forms.Format → W → SchemaModel → List RecordBatchTree → Option Decoded → BatchWriter W → Type 0
  AppendsInput form start s went None writer = Unit {0}
  AppendsInput form start s went (Some x) writer = HasTable x.whole (λ h. (h.schema ≡ s) × HasWritten contents form start s (went ++ h.batches) writer)

  -- the remaining record batches of a reader were written after others
  abbrev pub WritesRemaining : forms.Format → W → SchemaModel → List RecordBatchTree → Option Remaining → BatchWriter W → Type 0
  WritesRemaining form start s front None writer = Unit {0}
  WritesRemaining form start s front (Some t) writer = (bs : List RecordBatchTree) × (t.whole ≡ Ok bs) × HasWritten contents form start s (front ++ bs) writer

-- an error in a record batch is that of an input of this schema
abbrev pub HasSchema : Option ℕ → SchemaModel → Decoded → Type 0
HasSchema None s x = Unit {0}
HasSchema (Some k) s x = HasTable (x.first 0) (λ h. h.schema ≡ s)

-- the error occurred before any record batch of the input
abbrev pub IsBeforeBatches : AppendError → Type 0
IsBeforeBatches Schema = Unit {0}
IsBeforeBatches (Batch stop) = stop.batch ≡ None

-- the schema of the input differs; or copying all of it after the others fails so
abbrev pub IsAppendError : AppendError → forms.Format → SchemaModel → List RecordBatchTree → Option Decoded → Type 0
IsAppendError e form s went None = Unit {0}
IsAppendError Schema form s went (Some x) = HasTable (x.first 0) (λ h. h.schema ≡ s → ⊥)
IsAppendError (Batch stop) form s went (Some x) = FailsWhileCopying all form went x stop.batch stop.error × HasSchema stop.batch s x

-- the error occurred with names that all have a column, or in reading before any record batch
abbrev pub FollowsAppendedNames : ProjectionModel → Option Decoded → AppendError → Type 0
FollowsAppendedNames picks x Schema = HasNames picks x
FollowsAppendedNames picks x (Batch stop) = FollowsNames picks x stop

-- the error has the first projected name that no column has
abbrev pub LacksAppendedName : ProjectionModel → Option Decoded → AppendError → Type 0
LacksAppendedName picks x Schema = ⊥
LacksAppendedName picks x (Batch stop) = StopsForName picks x stop

module _ {W : Type 0} (contents : W → Option (List ℕ)) where
  -- the record batches of an input were written after those of the writer, whose schema it has
  abbrev pub IsAppended : Option Decoded → BatchWriter W → BatchWriter W → Type 0
  IsAppended x old new = (form : forms.Format) (start : W) (s : SchemaModel) (went : List RecordBatchTree) → HasWritten contents form start s went old → AppendsInput contents form start s went x new

  -- or this is why not
  abbrev pub FailsToAppend : Option Decoded → BatchWriter W → AppendError → Type 0
  FailsToAppend x old e = (form : forms.Format) (start : W) (s : SchemaModel) (went : List RecordBatchTree) → HasWritten contents form start s went old → IsAppendError e form s went x

  -- or no column has a projected name
  abbrev pub FailsToAppendColumns : ProjectionModel → Option Decoded → BatchWriter W → AppendError → Type 0
  FailsToAppendColumns picks x old e = (FailsToAppend x old e × FollowsAppendedNames picks x e) ⊎ LacksAppendedName picks x e

-- bytes were written that decode to the concatenation of inputs
abbrev pub WritesConcatenation : forms.Format → DecodedTables → Option (List ℕ) → Option (List ℕ) → Type 0
WritesConcatenation form reads old new = (bytes : List ℕ) × EncodesConcatenation form reads bytes × Appends old new bytes
