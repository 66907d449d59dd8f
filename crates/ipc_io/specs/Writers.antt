-- Writers of streams over `Write`, which take one record batch at a time.
use Rattle.std.specs.Prelude.{◌≡◌, ℕ, ⊤, Bool, true, false, List, [], ◌++◌, Option, None, Result, Ok, Err, refl}
use Rattle.std.specs.Coded.{Coded, code_by, coded×, coded_bool}
use Rattle.std.specs.Io.KnownBytes.{Appends}
use Rattle.ipc_flatbuf.specs.declared.error.IpcWriteError as write_errors
use Rattle.ipc_schema.specs.Projections.{all}
use Rattle.ipc_schema.specs.ProjectedSchemas.{stream_projected_schema_at}
use Rattle.ipc_schema.specs.ProjectionLaws.{all_written}
use Rattle.ipc_schema.specs.Schemas.{SchemaModel}
use Rattle.ipc_schema.specs.SchemaBytes.{schema_message}
use Rattle.ipc.specs.DictionaryEntries.{DictionaryEntries}
use Rattle.ipc.specs.SliceStreamReaders.{coded_schema, coded_known}
use Rattle.ipc.specs.EncodedStreams.{IsErrorOrMemory, batch_error, emitted_after, encoded_batch, stream_dictionary_batches}
use Rattle.ipc.specs.Streams.{RecordBatchTree, column_types}
use Rattle.ipc_io.specs.declared.error.WriteError as errors
use Rattle.ipc_io.specs.declared.error.WriteError.TheVariants.{Ipc, Io, Failed}
use Rattle.ipc_io.specs.Writes.{WritesPrefix}

-- a writer of a stream: the inner writer, the schema, the dictionaries emitted last, and whether a call failed
pub record WriterTree (W : Type 0) : Type 0 where
  pub inner : W
  pub schema : SchemaModel
  pub emitted : DictionaryEntries
  pub failed : Bool

abbrev pub coded_writer : {W : Type 0} → Coded W → Coded (WriterTree W)
coded_writer {W = W} writer =
    code_by (W × (SchemaModel × (DictionaryEntries × Bool))) (coded× writer (coded× coded_schema (coded× coded_known coded_bool))) (λ w. (w.inner, (w.schema, (w.emitted, w.failed)))) (λ p. record { inner = p.0; schema = p.1.0; emitted = p.1.1.0; failed = p.1.1.1 })
    (λ _. refl)

-- a writer with this inner writer, where these were emitted last
abbrev pub with_device : {W : Type 0} → WriterTree W → W → DictionaryEntries → WriterTree W
with_device w writer emitted = record { inner = writer; schema = w.schema; emitted = emitted; failed = false }

-- a writer that failed
abbrev pub with_failed : {W : Type 0} → WriterTree W → W → DictionaryEntries → WriterTree W
with_failed w writer emitted = record { inner = writer; schema = w.schema; emitted = emitted; failed = true }

-- a call returned an I/O error
abbrev pub IsIo : Result ⊤ errors.WriteError → Type 0
IsIo (Ok done) = ⊥
IsIo (Err (Ipc why)) = ⊥
IsIo (Err (Io e)) = Unit {0}
IsIo (Err Failed) = ⊥

-- the message of a schema round-trips, with the ids 0, 1, 2 and so on of its dictionaries
abbrev pub SchemaRoundTrips : SchemaModel → Type 0
SchemaRoundTrips s = (rest : List ℕ) → stream_projected_schema_at all (schema_message s ++ rest) ≡ Ok (all_written s, rest)

module _ {W : Type 0} (contents : W → Option (List ℕ)) where
  -- What a call leaves that writes bytes, after which these are the dictionaries emitted last, unless there is an error: all bytes were written; or nothing changed,
  -- as they cannot be written, or a call failed before; or the inner writer failed, a prefix was written, and nothing more will be.
  abbrev pub WritesBytes : Option write_errors.IpcWriteError → List ℕ → DictionaryEntries → WriterTree W → WriterTree W → Result ⊤ errors.WriteError → Type 0
  WritesBytes reason bytes emitted old new (Ok done) = (old.failed ≡ false) × (reason ≡ None) × Appends (contents old.inner) (contents new.inner) bytes × (new ≡ with_device old new.inner emitted)
  WritesBytes reason bytes emitted old new (Err (Ipc why)) = (old.failed ≡ false) × IsErrorOrMemory reason why × (new ≡ old)
  WritesBytes reason bytes emitted old new (Err (Io e)) = (old.failed ≡ false) × (reason ≡ None) × WritesPrefix (contents old.inner) (contents new.inner) bytes × (new ≡ with_failed old new.inner new.emitted)
  WritesBytes reason bytes emitted old new (Err Failed) = (old.failed ≡ true) × (new ≡ old)

  -- what `new` leaves: all bytes were appended to the inner writer
  abbrev pub StartsWriting : Option write_errors.IpcWriteError → List ℕ → SchemaModel → W → Result (WriterTree W) errors.WriteError → Type 0
  StartsWriting reason bytes s writer (Ok w) = (reason ≡ None) × Appends (contents writer) (contents w.inner) bytes × (w ≡ record { inner = w.inner; schema = s; emitted = []; failed = false })
  StartsWriting reason bytes s writer (Err (Ipc why)) = IsErrorOrMemory reason why
  StartsWriting reason bytes s writer (Err (Io e)) = reason ≡ None
  StartsWriting reason bytes s writer (Err Failed) = ⊥

  -- what `finish` leaves: the inner writer, with all bytes appended
  abbrev pub FinishesWriting : Option write_errors.IpcWriteError → List ℕ → WriterTree W → Result W errors.WriteError → Type 0
  FinishesWriting reason bytes w (Ok writer) = (w.failed ≡ false) × (reason ≡ None) × Appends (contents w.inner) (contents writer) bytes
  FinishesWriting reason bytes w (Err (Ipc why)) = (w.failed ≡ false) × IsErrorOrMemory reason why
  FinishesWriting reason bytes w (Err (Io e)) = (w.failed ≡ false) × (reason ≡ None)
  FinishesWriting reason bytes w (Err Failed) = w.failed ≡ true

  -- what `write` leaves: the dictionary batches and the record batch are written, unless the batch has an error
  abbrev pub WritesRecordBatch : RecordBatchTree → WriterTree W → WriterTree W → Result ⊤ errors.WriteError → Type 0
  WritesRecordBatch b old new result =
      WritesBytes (batch_error (column_types old.schema) old.emitted b) (encoded_batch stream_dictionary_batches old.emitted b) (emitted_after old.emitted b) old new result
