-- Steps of concatenating inputs.
use Rattle.std.specs.Prelude.{ℕ, List, Option}
use Rattle.ipc.specs.Streams.{RecordBatchTree}
use Rattle.cli_args.specs.Requests.{all}
use Rattle.cli_args.specs.declared.format.Format as formats
use Rattle.cli_rows.specs.declared.error.BatchError.{BatchError}
use Rattle.cli_read.specs.Readers.{reader_schema, remaining_batches}
use Rattle.cli_read.specs.declared.reader.BatchReader.{BatchReader}
use Rattle.cli_write.specs.Concat.{WritesRemaining}
use Rattle.cli_write.specs.CopyStates.{IsCopyStateError}
use Rattle.cli_write.specs.Writers.{HasWritten}
use Rattle.cli_write.specs.declared.writer.BatchWriter.{BatchWriter}

module _ {W R : Type 0} (contents : W → Option (List ℕ)) (remaining : R → Option (List ℕ)) (place : R → Option ℕ) (bytes : R → Option (List ℕ)) where
  -- the remaining record batches were written after those of the writer, which has their schema
  abbrev pub AppendsRemaining : BatchReader R → BatchWriter W → BatchWriter W → Type 0
  AppendsRemaining reader old new =
      (form : formats.Format) (start : W) (front : List RecordBatchTree) → HasWritten contents form start (reader_schema reader) front old
      → WritesRemaining contents form start (reader_schema reader) front (remaining_batches remaining place bytes reader) new

  -- or this is the error of one of them
  abbrev pub FailsToAppendRemaining : BatchReader R → BatchWriter W → BatchError → Type 0
  FailsToAppendRemaining reader old e =
      (form : formats.Format) (start : W) (front : List RecordBatchTree) → HasWritten contents form start (reader_schema reader) front old
      → IsCopyStateError e form all (reader_schema reader) front (remaining_batches remaining place bytes reader)
