-- The bytes of a written file, and the first error of one that cannot be written. Source: Columnar format, "IPC File Format".
use Rattle.std.specs.Prelude.{◌≡◌, ℕ, ◌+◌, ◌^◌, ℤ, pos, true, false, nat_le, if◌then◌else◌, List, [], ◌∷◌, ◌++◌, map, length, Option, Some, None, Result, Ok, Err}
use Rattle.std.specs.List.{AllByRecursion, flat_map}
use Rattle.nest_memory.specs.TypeTree.{TypeTree}
use Rattle.ipc_flatbuf.specs.ReadResults.{◌>>=◌}
use Rattle.ipc_flatbuf.specs.declared.error.IpcReadError.{IpcReadError}
use Rattle.ipc_flatbuf.specs.declared.error.IpcReadError.TheVariants as read_errors
use Rattle.ipc_flatbuf.specs.declared.error.IpcWriteError.{IpcWriteError}
use Rattle.ipc_flatbuf.specs.declared.error.IpcWriteError.TheVariants.{Memory, Columns, DictionaryReplacement}
use Rattle.ipc_flatbuf.specs.Messages.{MessageModel, message_at}
use Rattle.ipc_schema.specs.ProjectionLaws.{all_written}
use Rattle.ipc_schema.specs.Schemas.{SchemaModel}
use Rattle.ipc_schema.specs.SchemaBytes.{schema_message}
use Rattle.ipc_arrays.specs.Encoding.{columns_body}
use Rattle.ipc_schema.specs.declared.footer.types.Block.{Block}
use Rattle.ipc_schema.specs.Footers.{FooterModel}
use Rattle.ipc_schema.specs.FooterBytes.{footer_bytes, file_head, file_end}
use Rattle.ipc.specs.DictionaryEntries.{DictionaryEntries}
use Rattle.ipc.specs.FileDictionaries.{DictionaryBatchTree, spec_dictionary_batches, spec_any_replaced}
use Rattle.ipc.specs.Streams.{RecordBatchTree, StateTree, start, state_of, column_types, dictionary_in}
use Rattle.ipc.specs.Files.{FileTree}
use Rattle.ipc.specs.declared.writing_files.FileBlocks as declared
use Rattle.ipc.specs.declared.state.DictionaryState as code
use Rattle.nest_array.specs.declared.any.AnyArray.{AnyArray}
use Rattle.ipc.specs.EntriesOf.{by_id}
use Rattle.ipc.specs.EncodedStreams.{batch_head, batch_bytes, dictionary_head, dictionary_bytes, pending_by, emitted_after, encoded_messages, or_error, size_error_if, schema_error, spec_are_columns, record_batch_error, dictionary_error, error_from, decoded_record_batch, decoded_batches}

-- ---- bytes

-- the block of a message with its body at a position
abbrev pub block_at : ℕ → List ℕ → List ℕ → Block
block_at position head body = record { offset = pos position; metadata_length = pos (length head); body_length = pos (length body) }

abbrev pub written_block : ℕ → RecordBatchTree → Block
written_block position b = block_at position (batch_head b) (columns_body b.columns)

-- the dictionary batches before a record batch of a file: extended values are a delta
abbrev pub file_dictionary_batches : DictionaryEntries → RecordBatchTree → List DictionaryBatchTree
file_dictionary_batches emitted b = spec_dictionary_batches emitted (pending_by emitted b)

-- their blocks
unfoldable pub dictionary_blocks : ℕ → List DictionaryBatchTree → List Block
dictionary_blocks position [] = []
dictionary_blocks position (p ∷ ps) = block_at position (dictionary_head p) (columns_body (p.1.1 ∷ [])) ∷ dictionary_blocks (position + length (dictionary_bytes p)) ps

-- the blocks of dictionary batches and of record batches
pub record Blocks : Type 0 where
  pub dictionaries : List Block
  pub batches : List Block

abbrev pub no_blocks : Blocks
no_blocks = record { dictionaries = []; batches = [] }

-- those of a record batch before others
abbrev pub before_blocks : List Block → Block → Blocks → Blocks
before_blocks dictionaries batch blocks = record { dictionaries = dictionaries ++ blocks.dictionaries; batches = batch ∷ blocks.batches }

-- the position of a record batch, whose dictionary batches begin at another
abbrev pub batch_offset : ℕ → DictionaryEntries → RecordBatchTree → ℕ
batch_offset position emitted b = position + length (flat_map dictionary_bytes (file_dictionary_batches emitted b))

-- dictionary batches and a record batch
abbrev pub part_bytes : List DictionaryBatchTree → RecordBatchTree → List ℕ
part_bytes ps b = flat_map dictionary_bytes ps ++ batch_bytes b

-- their blocks after others
abbrev pub with_blocks : Blocks → ℕ → List DictionaryBatchTree → RecordBatchTree → Blocks
with_blocks blocks position ps b = record { dictionaries = blocks.dictionaries ++ dictionary_blocks position ps; batches = blocks.batches ++ written_block (position + length (flat_map dictionary_bytes ps)) b ∷ [] }

-- batch by batch, each after its dictionary batches
unfoldable pub blocks_from : ℕ → DictionaryEntries → List RecordBatchTree → Blocks
blocks_from position emitted [] = no_blocks
blocks_from position emitted (b ∷ bs) =
    before_blocks (dictionary_blocks position (file_dictionary_batches emitted b)) (written_block (batch_offset position emitted b) b) (blocks_from (batch_offset position emitted b + length (batch_bytes b)) (emitted_after emitted b) bs)

-- those that the code holds
abbrev pub file_blocks_of : declared.FileBlocks → Blocks
file_blocks_of b = record { dictionaries = b.dictionaries.items; batches = b.batches.items }

-- all follow the first 8 bytes and the schema message
abbrev pub written_blocks : SchemaModel → List RecordBatchTree → Blocks
written_blocks s bs = blocks_from (8 + length (schema_message s)) [] bs

abbrev pub written_footer : SchemaModel → List RecordBatchTree → FooterModel
written_footer s bs = record { schema = s; dictionaries = (written_blocks s bs).dictionaries; batches = (written_blocks s bs).batches }

-- the magic bytes and padding, the messages with the end-of-stream marker, the footer with its length and the magic bytes
unfoldable pub encoded_file : SchemaModel → List RecordBatchTree → List ℕ
encoded_file s bs = file_head ++ (encoded_messages file_dictionary_batches s bs ++ file_end (written_footer s bs))

-- ---- the state of a reader of the file

-- the state after the dictionary batch at the start of bytes, if there is one
abbrev pub state_with : StateTree → Option MessageModel → Result StateTree IpcReadError
state_with s None = Ok s
state_with s (Some m) = dictionary_in true s m

abbrev pub state_by : StateTree → List ℕ → Result StateTree IpcReadError
state_by s bytes = message_at bytes >>= λ next. state_with s next.0

-- after a written dictionary batch, or its error: an offset or key would overflow
abbrev pub state_with_dictionary : StateTree → DictionaryBatchTree → Result StateTree IpcReadError
state_with_dictionary s p = state_by s (dictionary_bytes p)

abbrev pub state_or : StateTree → Result StateTree IpcReadError → StateTree
state_or s (Ok t) = t
state_or s (Err error) = s

abbrev pub state_after : StateTree → DictionaryBatchTree → StateTree
state_after s p = state_or s (state_with_dictionary s p)

-- the state after items in order
abbrev pub after : {S A : Type 0} → (S → A → S) → S → List A → S
after next s [] = s
after next s (x ∷ xs) = after next (next s x) xs

-- the state of a file between two record batches: the values emitted last, and the state of a reader
pub record FileState : Type 0 where
  pub emitted : DictionaryEntries
  pub state : StateTree

abbrev pub file_state : DictionaryEntries → StateTree → FileState
file_state emitted state = record { emitted = emitted; state = state }

-- of the values that the code holds
abbrev pub file_state_of : List (ℤ × AnyArray) → code.DictionaryState → FileState
file_state_of emitted state = file_state (by_id emitted) (state_of state)

abbrev pub file_state_after : FileState → RecordBatchTree → FileState
file_state_after f b = record { emitted = emitted_after f.emitted b; state = after state_after f.state (file_dictionary_batches f.emitted b) }

-- after the schema nothing was emitted
abbrev pub file_state_start : SchemaModel → FileState
file_state_start s = record { emitted = []; state = start (all_written s) }

-- after all batches
abbrev pub file_state_end : SchemaModel → List RecordBatchTree → FileState
file_state_end s bs = after file_state_after (file_state_start s) bs

-- ---- the first error of a file

-- a block cannot hold the length of a message
abbrev pub block_length_error : List ℕ → Option IpcWriteError
block_length_error head = size_error_if (nat_le (2 ^ 31) (length head))

abbrev pub dictionary_block_error : DictionaryBatchTree → Option IpcWriteError
dictionary_block_error p = or_error (dictionary_error p) (block_length_error (dictionary_head p))

abbrev pub record_batch_block_error : RecordBatchTree → Option IpcWriteError
record_batch_block_error b = or_error (record_batch_error b) (block_length_error (batch_head b))

-- a pending dictionary replaces an emitted one: the values of an id can only be extended
abbrev pub replaced_error : DictionaryEntries → DictionaryEntries → Option IpcWriteError
replaced_error emitted new = if spec_any_replaced emitted new then Some DictionaryReplacement else None

-- a reader cannot append a delta
abbrev pub unreadable_error : Result StateTree IpcReadError → Option IpcWriteError
unreadable_error (Ok t) = None
unreadable_error (Err error) = Some DictionaryReplacement

-- a failed allocation stays one
abbrev pub spec_write_error_of : IpcReadError → IpcWriteError
spec_write_error_of read_errors.Memory = Memory
spec_write_error_of error = DictionaryReplacement

-- of a dictionary batch
abbrev pub dictionary_batch_error : StateTree → DictionaryBatchTree → Option IpcWriteError
dictionary_batch_error s p = or_error (dictionary_block_error p) (unreadable_error (state_with_dictionary s p))

abbrev pub dictionary_batches_error : StateTree → List DictionaryBatchTree → Option IpcWriteError
dictionary_batches_error s ps = error_from state_after dictionary_batch_error s ps

-- of dictionary batches, then a record batch
abbrev pub part_error : StateTree → List DictionaryBatchTree → RecordBatchTree → Option IpcWriteError
part_error s ps b = or_error (dictionary_batches_error s ps) (record_batch_block_error b)

-- of a record batch for columns of these data types: a replaced dictionary, then its dictionary batches, then the record batch
abbrev pub file_batch_error : List TypeTree → FileState → RecordBatchTree → Option IpcWriteError
file_batch_error types f b =
    if spec_are_columns types b.rows b.columns then or_error (replaced_error f.emitted (pending_by f.emitted b)) (part_error f.state (file_dictionary_batches f.emitted b) b) else Some Columns

-- batch by batch
abbrev pub file_batches_error : List TypeTree → FileState → List RecordBatchTree → Option IpcWriteError
file_batches_error types f bs = error_from file_state_after (file_batch_error types) f bs

-- the footer exceeds 2^31 - 1 bytes
abbrev pub footer_error : FooterModel → Option IpcWriteError
footer_error f = size_error_if (nat_le (2 ^ 31) (length (footer_bytes f)))

-- the first error of the messages of a file: the schema, then batch by batch
abbrev pub messages_error : SchemaModel → List RecordBatchTree → Option IpcWriteError
messages_error s bs = or_error (schema_error s) (file_batches_error (column_types s) (file_state_start s) bs)

-- the first error of a file: the schema, then batch by batch, then the footer
abbrev pub file_error : SchemaModel → List RecordBatchTree → Option IpcWriteError
file_error s bs = or_error (schema_error s) (or_error (file_batches_error (column_types s) (file_state_start s) bs) (footer_error (written_footer s bs)))

-- no record batch needs a delta
abbrev pub HasNoDeltas : DictionaryEntries → List RecordBatchTree → Type 0
HasNoDeltas emitted [] = Unit {0}
HasNoDeltas emitted (b ∷ bs) = AllByRecursion (λ p. p.0 ≡ false) (file_dictionary_batches emitted b) × HasNoDeltas (emitted_after emitted b) bs

-- ---- what a written file decodes to

-- the schema and the record batches, over all dictionaries of the file
abbrev pub decoded_file : SchemaModel → List RecordBatchTree → FileTree
decoded_file s bs = record { schema = s; batches = map (decoded_record_batch (file_state_end s bs).state.known) bs }

-- without deltas, the batches of a file are decoded as those of a stream
abbrev pub DecodesLikeStream : SchemaModel → List RecordBatchTree → Type 0
DecodesLikeStream s bs = HasNoDeltas [] bs → (decoded_file s bs).batches ≡ decoded_batches bs
