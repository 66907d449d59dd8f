-- What a writer has written.
use Rattle.std.specs.Prelude.{◌≡◌, ◌⊎◌, ◌+◌, ℕ, List, [], ◌∷◌, ◌++◌, length, Option, Some, None, Result, Ok, Err}
use Rattle.std.specs.Io.KnownBytes.{Appends}
use Rattle.ipc_flatbuf.specs.declared.error.IpcWriteError as reasons
use Rattle.ipc_schema.specs.Schemas.{SchemaModel}
use Rattle.ipc_schema.specs.SchemaBytes.{schema_message}
use Rattle.ipc.specs.Streams.{RecordBatchTree, column_types}
use Rattle.ipc.specs.EncodedStreams.{IsErrorOrMemory, encoded_batches, batches_error, schema_error, stream_dictionary_batches}
use Rattle.ipc.specs.EncodedFiles.{file_batches_error, file_state_end, file_state_start, file_dictionary_batches}
use Rattle.ipc_io.specs.declared.error.WriteError.{WriteError}
use Rattle.ipc_io.specs.declared.error.WriteError.TheVariants.{Ipc, Io, Failed}
use Rattle.ipc_io.specs.FileWriterLaws.{HasStarted}
use Rattle.ipc_io.specs.FileWriters.{FileWriterTree, file_state_so_far, header_bytes}
use Rattle.ipc_io.specs.WriterLaws as writers
use Rattle.ipc_io.specs.Writers.{StartsWriting, SchemaRoundTrips, WriterTree}
use Rattle.cli_read.specs.RowBuffers.{table_of_batches}
use Rattle.cli_rows.specs.Encodings.{IsEncodingOf, write_refusal}
use Rattle.cli_rows.specs.declared.error.CliError.{CliError}
use Rattle.cli_rows.specs.declared.error.CliError.TheVariants.{Input, Read, Write, MismatchedColumns, IndexOutOfRange, Condition, UnknownName, Output, Memory}
use Rattle.cli_args.specs.declared.format.Format as forms
use Rattle.cli_write.specs.Copies.{IsWriteRefusal}
use Rattle.cli_write.specs.declared.writer.BatchWriter.{BatchWriter}
use Rattle.cli_write.specs.declared.writer.BatchWriter.TheVariants.{File, Stream}

module _ {W : Type 0} (contents : W → Option (List ℕ)) where
  -- a stream of this schema and these record batches
  pub record IsStreamWriter (start : W) (s : SchemaModel) (bs : List RecordBatchTree) (w : WriterTree W) : Type 0 where
    pub first : WriterTree W
    pub begun : StartsWriting contents (schema_error s) (schema_message s) s start (Ok first)
    pub again : SchemaRoundTrips s
    pub written : writers.WritesBatches contents bs first w
    pub put : writers.HasPut contents stream_dictionary_batches (contents start) (schema_message s) s bs w
    pub form : batches_error (column_types s) [] bs ≡ None

  -- a file of them
  pub record IsFileWriter (start : W) (s : SchemaModel) (bs : List RecordBatchTree) (w : FileWriterTree W) : Type 0 where
    pub run : HasStarted contents s bs start w
    pub put : writers.HasPut contents file_dictionary_batches (contents start) (header_bytes s) s bs w.stream
    pub position : w.position ≡ length (header_bytes s) + length (encoded_batches file_dictionary_batches [] bs)
    pub known : file_state_so_far w ≡ file_state_end s bs
    pub form : file_batches_error (column_types s) (file_state_start s) bs ≡ None

  -- in either format
  abbrev pub HasWritten : forms.Format → W → SchemaModel → List RecordBatchTree → BatchWriter W → Type 0
  HasWritten forms.TheVariants.Stream start s bs (Stream w) = IsStreamWriter start s bs w
  HasWritten forms.TheVariants.Stream start s bs (File w) = ⊥
  HasWritten forms.TheVariants.File start s bs (Stream w) = ⊥
  HasWritten forms.TheVariants.File start s bs (File w) = IsFileWriter start s bs w

-- the schema of a writer
abbrev pub writer_schema : {W : Type 0} → BatchWriter W → SchemaModel
writer_schema (Stream w) = w.schema
writer_schema (File w) = w.stream.schema

-- bytes were written that decode to these record batches
abbrev pub WritesTableBatches : forms.Format → SchemaModel → List RecordBatchTree → Option (List ℕ) → Option (List ℕ) → Type 0
WritesTableBatches form s bs old new = (bytes : List ℕ) × IsEncodingOf form (table_of_batches s bs) bytes × Appends old new bytes

-- writing failed, or this is the reason why it cannot be written
abbrev pub FailsWrite : CliError → (reasons.IpcWriteError → Type 0) → Type 0
FailsWrite (Write why) IsReason = IsReason why
FailsWrite Output IsReason = Unit {0}
FailsWrite Input IsReason = ⊥
FailsWrite (Read error) IsReason = ⊥
FailsWrite MismatchedColumns IsReason = ⊥
FailsWrite IndexOutOfRange IsReason = ⊥
FailsWrite (Condition error) IsReason = ⊥
FailsWrite (UnknownName i) IsReason = ⊥
FailsWrite Memory IsReason = ⊥

-- of a schema
abbrev pub FailsSchema : CliError → Option reasons.IpcWriteError → Type 0
FailsSchema error reason = FailsWrite error (IsErrorOrMemory reason)

-- of a record batch after others, whatever follows
abbrev pub FailsBatch : CliError → forms.Format → SchemaModel → List RecordBatchTree → RecordBatchTree → Type 0
FailsBatch error form s went b = FailsWrite error (λ why. (more : List RecordBatchTree) → IsWriteRefusal form (table_of_batches s (went ++ b ∷ more)) why)

-- of one of these record batches
abbrev pub FailsBatches : CliError → forms.Format → SchemaModel → List RecordBatchTree → Type 0
FailsBatches error form s bs = FailsWrite error (λ why. IsWriteRefusal form (table_of_batches s bs) why)

-- of the end
abbrev pub FailsFinish : CliError → forms.Format → SchemaModel → List RecordBatchTree → Type 0
FailsFinish error form s went = FailsWrite error (λ why. IsErrorOrMemory (write_refusal form (table_of_batches s went)) why)

module _ {W : Type 0} (contents : W → Option (List ℕ)) where
  -- a record batch was written after the others
  abbrev pub Puts : BatchWriter W → RecordBatchTree → BatchWriter W → Type 0
  Puts old b new = (form : forms.Format) (start : W) (s : SchemaModel) (went : List RecordBatchTree) → HasWritten contents form start s went old → HasWritten contents form start s (went ++ b ∷ []) new

  abbrev pub FailsToPut : BatchWriter W → RecordBatchTree → CliError → Type 0
  FailsToPut old b e = (form : forms.Format) (start : W) (s : SchemaModel) (went : List RecordBatchTree) → HasWritten contents form start s went old → FailsBatch e form s went b

  -- record batches were
  abbrev pub PutsAll : BatchWriter W → List RecordBatchTree → BatchWriter W → Type 0
  PutsAll old bs new = (form : forms.Format) (start : W) (s : SchemaModel) (went : List RecordBatchTree) → HasWritten contents form start s went old → HasWritten contents form start s (went ++ bs) new

  abbrev pub FailsToPutAll : BatchWriter W → List RecordBatchTree → CliError → Type 0
  FailsToPutAll old bs e = (form : forms.Format) (start : W) (s : SchemaModel) (went : List RecordBatchTree) → HasWritten contents form start s went old → FailsBatches e form s (went ++ bs)

  -- the output is complete
  abbrev pub Finishes : BatchWriter W → W → Type 0
  Finishes old end = (form : forms.Format) (start : W) (s : SchemaModel) (went : List RecordBatchTree) → HasWritten contents form start s went old → WritesTableBatches form s went (contents start) (contents end)

  abbrev pub FailsToFinish : BatchWriter W → CliError → Type 0
  FailsToFinish old e = (form : forms.Format) (start : W) (s : SchemaModel) (went : List RecordBatchTree) → HasWritten contents form start s went old → FailsFinish e form s went
