-- Streams with compressed buffers. Source: Columnar format, "IPC Streaming Format" and "Compression".
use Rattle.std.specs.Prelude.{◌≡◌, ℕ, List, [], ◌∷◌, ◌++◌, map, true, Option, Some, None}
use Rattle.std.specs.List.{AllByRecursion}
use Rattle.nest_memory.specs.TypeTree.{TypeTree}
use Rattle.nest_model.specs.Meaning.{len}
use Rattle.ipc_flatbuf.specs.declared.error.IpcWriteError.{IpcWriteError}
use Rattle.ipc_flatbuf.specs.MessageBytes.{end_of_stream}
use Rattle.ipc_flatbuf.specs.StoredArrays.{reads_as_stored}
use Rattle.ipc_schema.specs.ProjectedSchemas.{ProjectedSchemaModel}
use Rattle.ipc_schema.specs.ProjectionLaws.{read_actions}
use Rattle.ipc_schema.specs.Schemas.{SchemaModel}
use Rattle.ipc_schema.specs.SchemaBytes.{schema_message}
use Rattle.ipc_arrays.specs.Encoding.{field_node_of, written_arrays, buffers_of}
use Rattle.ipc.specs.DictionaryEntries.{DictionaryEntries}
use Rattle.ipc.specs.SchemaIds.{IsNamed}
use Rattle.ipc.specs.FileDictionaries.{DictionaryBatchTree}
use Rattle.ipc.specs.Streams.{RecordBatchTree, StateTree, column_types, next_in}
use Rattle.ipc.specs.EncodedStreams.{stream_dictionary_batches, emitted_after, encoded_batch, spec_are_columns, or_error, each_error, error_from, schema_error, batch_error}
use Rattle.ipc.specs.CompressedMessages.{BatchMessage, AreCompressedMessages, compression_error}

-- ---- bytes

-- what the messages of a record batch and of a dictionary batch say
abbrev pub batch_message_of : RecordBatchTree → BatchMessage
batch_message_of b = record { dictionary = None; rows = b.rows; nodes = map field_node_of (written_arrays b.columns); contents = buffers_of (written_arrays b.columns) }

abbrev pub dictionary_message_of : DictionaryBatchTree → BatchMessage
dictionary_message_of p = record { dictionary = Some (p.0, p.1.0); rows = len p.1.1; nodes = map field_node_of (written_arrays (p.1.1 ∷ [])); contents = buffers_of (written_arrays (p.1.1 ∷ [])) }

-- of dictionary batches and the record batch after them
abbrev pub messages_of : List DictionaryBatchTree → RecordBatchTree → List BatchMessage
messages_of [] b = batch_message_of b ∷ []
messages_of (p ∷ ps) b = dictionary_message_of p ∷ messages_of ps b

-- ---- what is read

-- a reader of all columns of a schema, which has the data types of the record batch, and names the dictionaries
pub record ReadsColumns (q : ProjectedSchemaModel) (ps : List DictionaryBatchTree) (b : RecordBatchTree) : Type 0 where
  pub steps : q.steps ≡ read_actions q.schema.fields
  pub arrays : reads_as_stored q.arrays ≡ true
  pub columns : spec_are_columns (column_types q.schema) b.rows b.columns ≡ true
  pub named : AllByRecursion (λ p. IsNamed q.seen.named p.1) ps

-- These bytes are the record batch after its pending dictionaries, each message with the codec LZ4 and compressed buffers. Whatever a reader has
-- read before, and whatever bytes follow, it reads the same as from the bytes without compression.
pub record IsCompressedBatch (emitted : DictionaryEntries) (b : RecordBatchTree) (bytes : List ℕ) : Type 0 where
  pub messages : AreCompressedMessages (messages_of (stream_dictionary_batches emitted b) b) bytes
  pub reads_as_plain : (s : StateTree) (rest : List ℕ) → ReadsColumns s.picked (stream_dictionary_batches emitted b) b → next_in s (bytes ++ rest) ≡ next_in s (encoded_batch stream_dictionary_batches emitted b ++ rest)

-- record batches in order
abbrev pub AreCompressedBatches : DictionaryEntries → List RecordBatchTree → List ℕ → Type 0
AreCompressedBatches emitted [] bytes = bytes ≡ []
AreCompressedBatches emitted (b ∷ bs) bytes = (first : List ℕ) × (others : List ℕ) × IsCompressedBatch emitted b first × AreCompressedBatches (emitted_after emitted b) bs others × (bytes ≡ first ++ others)

-- the schema message, the batches, the end-of-stream marker
abbrev pub IsCompressedStream : SchemaModel → List RecordBatchTree → List ℕ → Type 0
IsCompressedStream s bs bytes = (batches : List ℕ) × AreCompressedBatches [] bs batches × (bytes ≡ schema_message s ++ (batches ++ end_of_stream))

-- new is old with a compressed record batch at its end
abbrev pub AppendsCompressedBatch : DictionaryEntries → RecordBatchTree → List ℕ → List ℕ → Type 0
AppendsCompressedBatch emitted b old new = (bytes : List ℕ) × IsCompressedBatch emitted b bytes × (new ≡ old ++ bytes)

abbrev pub AppendsCompressedBatches : DictionaryEntries → List RecordBatchTree → List ℕ → List ℕ → Type 0
AppendsCompressedBatches emitted bs old new = (bytes : List ℕ) × AreCompressedBatches emitted bs bytes × (new ≡ old ++ bytes)

-- ---- the first error

-- of a record batch: as without compression, then of a compressed message
abbrev pub compressed_batch_error : List TypeTree → DictionaryEntries → RecordBatchTree → Option IpcWriteError
compressed_batch_error types emitted b = or_error (batch_error types emitted b) (each_error compression_error (messages_of (stream_dictionary_batches emitted b) b))

-- batch by batch
abbrev pub compressed_batches_error : List TypeTree → DictionaryEntries → List RecordBatchTree → Option IpcWriteError
compressed_batches_error types emitted bs = error_from emitted_after (compressed_batch_error types) emitted bs

-- of a stream: of the schema, then batch by batch
abbrev pub compressed_stream_error : SchemaModel → List RecordBatchTree → Option IpcWriteError
compressed_stream_error s bs = or_error (schema_error s) (compressed_batches_error (column_types s) [] bs)
