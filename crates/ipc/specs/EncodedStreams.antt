-- The bytes of a written stream, and the first error of one that cannot be written. Source: Columnar format, "IPC Streaming Format".
use Rattle.std.specs.Prelude.{◌≡◌, ◌⊎◌, ◌^◌, ◌+◌, ℕ, suc, Bool, true, false, ◌&&◌, ◌==◌, nat_le, if◌then◌else◌, List, [], ◌∷◌, ◌++◌, map, length, Option, Some, None, is_some, Result, Ok, Err, ℤ}
use Rattle.std.specs.List.{AllByRecursion, AllZip, flat_map}
use Rattle.nest_memory.specs.TypeTree.{TypeTree}
use Rattle.nest_memory.specs.TypeEq.{same_type}
use Rattle.nest_model.specs.Array.{IsArray}
use Rattle.nest_model.specs.Layout.{Layout, layout_type}
use Rattle.nest_model.specs.Meaning.{len, slots_of}
use Rattle.ipc_flatbuf.specs.declared.error.IpcWriteError.{IpcWriteError}
use Rattle.ipc_flatbuf.specs.declared.error.IpcWriteError.TheVariants.{Memory, Size, Columns}
use Rattle.ipc_flatbuf.specs.Messages.{MessageModel, message_at}
use Rattle.ipc_flatbuf.specs.MessageBytes.{metadata_size, end_of_stream}
use Rattle.ipc_flatbuf.specs.declared.message.types.MessageKind.TheVariants.{DictionaryBatch, RecordBatch}
use Rattle.ipc_flatbuf.specs.declared.message.types.MetadataVersion.TheVariants.{V5}
use Rattle.ipc_flatbuf.specs.StoredArrays.{reads_as_stored}
use Rattle.ipc_schema.specs.Schemas.{SchemaModel}
use Rattle.ipc_schema.specs.WriteChecks.{check_fields}
use Rattle.ipc_schema.specs.ProjectionLaws.{read_actions}
use Rattle.ipc_schema.specs.SchemaBytes.{schema_message}
use Rattle.ipc_flatbuf.specs.Batches.{BatchModel}
use Rattle.ipc_flatbuf.specs.BatchBytes.{batch_message}
use Rattle.ipc_flatbuf.specs.DictionaryBytes.{dictionary_message}
use Rattle.ipc_arrays.specs.BodyBuffers.{buffer_specs}
use Rattle.ipc_arrays.specs.ReplacedValues.{RoundTripOverExtensions}
use Rattle.ipc_arrays.specs.Encoding.{field_node_of, written_arrays, buffers_of, columns_body, size_error}
use Rattle.ipc.specs.DictionaryEntries.{DictionaryEntries, own_entries}
use Rattle.ipc.specs.PendingDictionaries.{entry_at, with_entries, pending}
use Rattle.ipc.specs.KnownDictionaries.{Covers, CoversColumns, number_of, read_columns, read_values, known_with}
use Rattle.ipc.specs.SchemaIds.{IsNamed, AreNamed, seen_of_fields}
use Rattle.ipc.specs.FileDictionaries.{DictionaryBatchTree, whole}
use Rattle.ipc.specs.Streams.{RecordBatchTree, StateTree, StreamTree, record_batch_in, dictionary_in, spec_check_order, column_types, with_new, spec_with_values}

-- ---- bytes

-- the metadata of a record batch
abbrev pub batch_tree : RecordBatchTree → BatchModel
batch_tree b = record { rows = b.rows; nodes = map field_node_of (written_arrays b.columns); buffers = buffer_specs 0 (buffers_of (written_arrays b.columns)); compression = None }

-- the message of a record batch, without its body
abbrev pub batch_head : RecordBatchTree → List ℕ
batch_head b = batch_message (batch_tree b) (length (columns_body b.columns))

-- with its body
unfoldable pub batch_bytes : RecordBatchTree → List ℕ
batch_bytes b = batch_head b ++ columns_body b.columns

-- the values of a dictionary are a record batch of one column
abbrev pub one_column : Layout → RecordBatchTree
one_column c = record { rows = len c; columns = c ∷ [] }

-- the message of a dictionary batch, without its body
abbrev pub dictionary_head : DictionaryBatchTree → List ℕ
dictionary_head p = dictionary_message p.0 p.1.0 (batch_tree (one_column p.1.1)) (length (columns_body (p.1.1 ∷ [])))

-- with its body
unfoldable pub dictionary_bytes : DictionaryBatchTree → List ℕ
dictionary_bytes p = dictionary_head p ++ columns_body (p.1.1 ∷ [])

-- the pending dictionaries of a record batch, where these were emitted last
abbrev pub pending_by : DictionaryEntries → RecordBatchTree → DictionaryEntries
pending_by emitted b = pending emitted b.columns

-- the emitted dictionaries after a record batch
abbrev pub emitted_after : DictionaryEntries → RecordBatchTree → DictionaryEntries
emitted_after emitted b = with_entries emitted (pending_by emitted b)

-- the dictionary batches before a record batch of a stream: all values of each pending dictionary
abbrev pub stream_dictionary_batches : DictionaryEntries → RecordBatchTree → List DictionaryBatchTree
stream_dictionary_batches emitted b = map whole (pending_by emitted b)

-- a record batch after its dictionary batches
unfoldable pub encoded_batch : (DictionaryEntries → RecordBatchTree → List DictionaryBatchTree) → DictionaryEntries → RecordBatchTree → List ℕ
encoded_batch puts emitted b = flat_map dictionary_bytes (puts emitted b) ++ batch_bytes b

-- record batches in order
unfoldable pub encoded_batches : (DictionaryEntries → RecordBatchTree → List DictionaryBatchTree) → DictionaryEntries → List RecordBatchTree → List ℕ
encoded_batches puts emitted [] = []
encoded_batches puts emitted (b ∷ bs) = encoded_batch puts emitted b ++ encoded_batches puts (emitted_after emitted b) bs

-- the schema message, the batches, the end-of-stream marker
unfoldable pub encoded_messages : (DictionaryEntries → RecordBatchTree → List DictionaryBatchTree) → SchemaModel → List RecordBatchTree → List ℕ
encoded_messages puts s bs = schema_message s ++ (encoded_batches puts [] bs ++ end_of_stream)

abbrev pub encoded_stream : SchemaModel → List RecordBatchTree → List ℕ
encoded_stream s bs = encoded_messages stream_dictionary_batches s bs

-- ---- the first error of a stream

-- an error, or the next one
abbrev pub or_error : Option IpcWriteError → Option IpcWriteError → Option IpcWriteError
or_error (Some why) next = Some why
or_error None next = next

abbrev pub error_of : Result (Unit {0}) IpcWriteError → Option IpcWriteError
error_of (Ok x) = None
error_of (Err why) = Some why

abbrev pub size_error_if : Bool → Option IpcWriteError
size_error_if past = if past then Some Size else None

-- the metadata of a message exceeds 2^31 - 1 bytes
abbrev pub metadata_error : List ℕ → Option IpcWriteError
metadata_error message = size_error_if (nat_le (2 ^ 31) (metadata_size message))

-- the first error of a schema: of a field, or the size of its message
abbrev pub schema_error : SchemaModel → Option IpcWriteError
schema_error s = or_error (error_of (check_fields s.fields)) (metadata_error (schema_message s))

-- a column has this data type and this length
abbrev pub spec_is_column : TypeTree → ℕ → Layout → Bool
spec_is_column t rows a = same_type t (layout_type a) && (len a == rows)

-- columns have these data types, one each, and this length
abbrev pub spec_are_columns : List TypeTree → ℕ → List Layout → Bool
spec_are_columns [] rows [] = true
spec_are_columns [] rows (a ∷ columns) = false
spec_are_columns (t ∷ types) rows [] = false
spec_are_columns (t ∷ types) rows (a ∷ columns) = spec_is_column t rows a && spec_are_columns types rows columns

-- the first error of columns with this message: the size of the body, the number of rows, the size of the message
abbrev pub message_error : List Layout → ℕ → List ℕ → Option IpcWriteError
message_error columns rows head = or_error (size_error columns) (or_error (size_error_if (nat_le (2 ^ 63) rows)) (metadata_error head))

-- of a record batch
unfoldable pub record_batch_error : RecordBatchTree → Option IpcWriteError
record_batch_error b = message_error b.columns b.rows (batch_head b)

-- of a dictionary batch
unfoldable pub dictionary_error : DictionaryBatchTree → Option IpcWriteError
dictionary_error p = message_error (p.1.1 ∷ []) (len p.1.1) (dictionary_head p)

-- the first error of any of them
abbrev pub each_error : {A : Type 0} → (A → Option IpcWriteError) → List A → Option IpcWriteError
each_error refusal [] = None
each_error refusal (x ∷ xs) = or_error (refusal x) (each_error refusal xs)

-- of a record batch for columns of these data types: of a dictionary batch, then of the record batch
abbrev pub batch_error : List TypeTree → DictionaryEntries → RecordBatchTree → Option IpcWriteError
batch_error types emitted b = if spec_are_columns types b.rows b.columns then or_error (each_error dictionary_error (stream_dictionary_batches emitted b)) (record_batch_error b) else Some Columns

-- the first error of any of them, each in the state after those before it
abbrev pub error_from : {S A : Type 0} → (S → A → S) → (S → A → Option IpcWriteError) → S → List A → Option IpcWriteError
error_from next refusal s [] = None
error_from next refusal s (x ∷ xs) = or_error (refusal s x) (error_from next refusal (next s x) xs)

-- batch by batch, each after the dictionaries of those before it
abbrev pub batches_error : List TypeTree → DictionaryEntries → List RecordBatchTree → Option IpcWriteError
batches_error types emitted bs = error_from emitted_after (batch_error types) emitted bs

-- the first error of a stream: of the schema, then batch by batch
abbrev pub stream_error : SchemaModel → List RecordBatchTree → Option IpcWriteError
stream_error s bs = or_error (schema_error s) (batches_error (column_types s) [] bs)

-- an error is this one, or a failed allocation
abbrev pub IsErrorOrMemory : Option IpcWriteError → IpcWriteError → Type 0
IsErrorOrMemory reason why = (why ≡ Memory) ⊎ (reason ≡ Some why)

-- ---- what a written stream decodes to

-- a record batch as it is read over known dictionaries: columns without nulls have no validity bitmap
abbrev pub decoded_record_batch : DictionaryEntries → RecordBatchTree → RecordBatchTree
decoded_record_batch known b = record { rows = b.rows; columns = read_columns known b.columns }

-- the known dictionaries after those of a record batch
abbrev pub known_after : DictionaryEntries → DictionaryEntries → RecordBatchTree → DictionaryEntries
known_after known emitted b = known_with known (pending_by emitted b)

-- record batches as they are read, in order
abbrev pub decoded_batches_from : DictionaryEntries → DictionaryEntries → List RecordBatchTree → List RecordBatchTree
decoded_batches_from known emitted [] = []
decoded_batches_from known emitted (b ∷ bs) = decoded_record_batch (known_after known emitted b) b ∷ decoded_batches_from (known_after known emitted b) (emitted_after emitted b) bs

-- those of a stream
abbrev pub decoded_batches : List RecordBatchTree → List RecordBatchTree
decoded_batches bs = decoded_batches_from [] [] bs

-- a stream of this many bytes
abbrev pub decoded_stream : SchemaModel → List RecordBatchTree → ℕ → StreamTree
decoded_stream s bs size = record { schema = s; batches = decoded_batches bs; read = size }

-- the same number of rows, equal data types and equal slots
pub record IsSameBatch (b c : RecordBatchTree) : Type 0 where
  pub rows : c.rows ≡ b.rows
  pub types : map layout_type c.columns ≡ map layout_type b.columns
  pub slots : map slots_of c.columns ≡ map slots_of b.columns

abbrev pub AreSameBatches : List RecordBatchTree → List RecordBatchTree → Type 0
AreSameBatches bs cs = AllZip IsSameBatch bs cs

-- ---- how each written message is read

-- these bytes are a message, whatever bytes follow
pub record IsMessage (bytes head body : List ℕ) (m : MessageModel) : Type 0 where
  pub again : (rest : List ℕ) → message_at (bytes ++ rest) ≡ Ok (Some m, rest)
  pub version : m.root.version ≡ V5
  pub head_long : 8 + length m.metadata ≡ length head
  pub body_long : length m.body ≡ length body

-- a state after a written schema, with all columns
pub record HasAllColumns (s : StateTree) : Type 0 where
  pub steps : s.picked.steps ≡ read_actions s.picked.schema.fields
  pub arrays : reads_as_stored s.picked.arrays ≡ true
  pub seen : s.picked.seen ≡ seen_of_fields s.picked.schema.fields

-- a record batch can be read in a state: the dictionaries that its columns name are known
pub record CanReadBatch (s : StateTree) (b : RecordBatchTree) : Type 0 where
  pub whole : HasAllColumns s
  pub columns : spec_are_columns (column_types s.picked.schema) b.rows b.columns ≡ true
  pub named : AreNamed s.picked.schema.fields b.columns
  pub known : CoversColumns s.known b.columns

-- a written record batch round-trips
pub record RecordBatchRoundTrips (b : RecordBatchTree) : Type 0 where
  pub parts : MessageModel
  pub message : IsMessage (batch_bytes b) (batch_head b) (columns_body b.columns) parts
  pub kind : parts.root.kind ≡ RecordBatch
  pub columns : (s : StateTree) → CanReadBatch s b → record_batch_in s parts ≡ Ok (decoded_record_batch s.known b)
  pub over : RoundTripOverExtensions b.columns

-- a state after a batch of all values of an id
abbrev pub known_more : StateTree → ℤ × Layout → StateTree
known_more s e = with_new s e.0 (read_values s.known (number_of e.0) e.1)

-- a dictionary batch can be read in a state: the dictionaries nested in its values are known, and in a file it replaces none
pub record CanReadDictionary (once : Bool) (s : StateTree) (p : DictionaryBatchTree) : Type 0 where
  pub named : IsNamed s.picked.seen.named p.1
  pub inside : AllByRecursion (Covers s.known) (own_entries (suc (number_of p.1.0)) p.1.1)
  pub comes : spec_check_order once p.0 (is_some (entry_at s.known p.1.0)) ≡ Ok tt

-- a written dictionary batch round-trips: its values are set, or appended to those of the id
pub record DictionaryRoundTrips (p : DictionaryBatchTree) : Type 0 where
  pub parts : MessageModel
  pub message : IsMessage (dictionary_bytes p) (dictionary_head p) (columns_body (p.1.1 ∷ [])) parts
  pub kind : parts.root.kind ≡ DictionaryBatch
  pub values : (once : Bool) (s : StateTree) → CanReadDictionary once s p → dictionary_in once s parts ≡ spec_with_values p.0 s p.1.0 (read_values s.known (number_of p.1.0) p.1.1)
  pub over : RoundTripOverExtensions (p.1.1 ∷ [])

-- a record batch after the messages written before it
pub record BatchRoundTrips (ps : List DictionaryBatchTree) (b : RecordBatchTree) : Type 0 where
  pub dictionaries : AllByRecursion DictionaryRoundTrips ps
  pub batch : RecordBatchRoundTrips b
  pub fits : AllByRecursion IsArray b.columns

-- batches, one after another
abbrev pub BatchesRoundTrip : (DictionaryEntries → RecordBatchTree → List DictionaryBatchTree) → DictionaryEntries → List RecordBatchTree → Type 0
BatchesRoundTrip puts emitted [] = Unit {0}
BatchesRoundTrip puts emitted (b ∷ bs) = BatchRoundTrips (puts emitted b) b × BatchesRoundTrip puts (emitted_after emitted b) bs
