-- The file in bytes, in the order of reading. Source: Columnar format, "IPC File Format".
use Rattle.std.specs.Prelude.{refl, ℕ, ◌+◌, ℤ, pos, true, ◌&&◌, ◌==◌, List, [], ◌∷◌, map, length, get_or, Option, Some, None, Result, Ok, Err, unsigned_abs}
use Rattle.std.specs.Coded.{Coded, code_by, coded×, coded_list, coded_ℕ, coded_ℤ}
use Rattle.ipc_flatbuf.specs.ReadResults.{◌>>=◌, check}
use Rattle.ipc_flatbuf.specs.declared.error.IpcReadError.{IpcReadError}
use Rattle.ipc_flatbuf.specs.declared.error.IpcReadError.TheVariants as read_errors
use Rattle.ipc_flatbuf.specs.Messages.{MessageModel, message_at}
use Rattle.ipc_flatbuf.specs.MessageBytes.{header_tag}
use Rattle.ipc_flatbuf.specs.declared.message.types.MessageKind.{MessageKind}
use Rattle.ipc_flatbuf.specs.declared.message.types.MessageKind.TheVariants.{DictionaryBatch, RecordBatch}
use Rattle.ipc_schema.specs.Projections.{ProjectionModel, all}
use Rattle.ipc_schema.specs.ProjectedSchemas.{ProjectedSchemaModel, spec_check_projected_version}
use Rattle.ipc_schema.specs.Schemas.{SchemaModel, schema_of}
use Rattle.ipc_schema.specs.declared.footer.types.Block.{Block}
use Rattle.ipc_schema.specs.Footers.{spec_block_bytes}
use Rattle.ipc_schema.specs.ProjectedFooters.{projected_footer_in}
use Rattle.ipc.specs.Streams.{RecordBatchTree, StateTree, start, record_batch_of, record_batch_in, dictionary_in}
use Rattle.ipc.specs.SliceStreamReaders.{coded_state}
use Rattle.ipc.specs.declared.file.File.{File}

-- ---- blocks

-- a message that fills its block: its body is that of the block, and no bytes follow it
abbrev pub message_of_block : Block → Option MessageModel → List ℕ → Result MessageModel IpcReadError
message_of_block b None behind = Err read_errors.Block
message_of_block b (Some m) behind = check (length behind == 0 && length m.body == unsigned_abs b.body_length) read_errors.Block >>= λ same. Ok m

-- the message in the bytes of a block, of the kind of its list
unfoldable pub spec_message_in_block : MessageKind → ProjectedSchemaModel → List ℕ → Block → Result MessageModel IpcReadError
spec_message_in_block kind p own b = do
  next ← message_at own
  m ← message_of_block b next.0 next.1
  same ← check (header_tag m.root.kind == header_tag kind) read_errors.HeaderType
  allowed ← spec_check_projected_version m.root.version p.schema.fields p.steps
  Ok m

-- the record batch in them
abbrev pub batch_in_block : StateTree → List ℕ → Block → Result RecordBatchTree IpcReadError
batch_in_block s own b = spec_message_in_block RecordBatch s.picked own b >>= record_batch_in s

-- the state after the dictionary batch in them, which replaces none
abbrev pub dictionary_in_block : StateTree → List ℕ → Block → Result StateTree IpcReadError
dictionary_in_block s own b = spec_message_in_block DictionaryBatch s.picked own b >>= dictionary_in true s

-- the message of a block in a file
abbrev pub block_in : MessageKind → ProjectedSchemaModel → List ℕ → Block → Result MessageModel IpcReadError
block_in kind p bytes b = spec_message_in_block kind p (spec_block_bytes bytes b) b

-- its record batch
abbrev pub block_batch_in : StateTree → List ℕ → Block → Result RecordBatchTree IpcReadError
block_batch_in s bytes b = batch_in_block s (spec_block_bytes bytes b) b

-- the record batches of blocks in order
unfoldable pub batches_at : StateTree → List ℕ → List Block → Result (List RecordBatchTree) IpcReadError
batches_at s bytes [] = Ok []
batches_at s bytes (b ∷ bs) = do
  batch ← block_batch_in s bytes b
  others ← batches_at s bytes bs
  Ok (batch ∷ others)

-- the state after the dictionary batches of blocks in order
unfoldable pub dictionaries_at : StateTree → List ℕ → List Block → Result StateTree IpcReadError
dictionaries_at s bytes [] = Ok s
dictionaries_at s bytes (b ∷ bs) = do
  known ← dictionary_in_block s (spec_block_bytes bytes b) b
  dictionaries_at known bytes bs

-- ---- files

-- a reader of a file in memory: the state after all dictionaries, the bytes, and the blocks of the record batches
pub record SliceFileReaderTree : Type 0 where
  pub state : StateTree
  pub bytes : List ℕ
  pub blocks : List Block

-- the reader of a file: its footer, then all dictionaries, are read
unfoldable pub file_reader_in : ProjectionModel → List ℕ → Result SliceFileReaderTree IpcReadError
file_reader_in picks bytes = do
  footer ← projected_footer_in picks bytes
  known ← dictionaries_at (start footer.picked) bytes footer.dictionaries
  Ok (record { state = known; bytes = bytes; blocks = footer.batches })

-- a block of no message
abbrev pub no_block : Block
no_block = record { offset = pos 0; metadata_length = pos 0; body_length = pos 0 }

-- the record batch of a reader at an index of the footer
abbrev pub batch_of_file : SliceFileReaderTree → ℕ → Result RecordBatchTree IpcReadError
batch_of_file r i = block_batch_in r.state r.bytes (get_or r.blocks i no_block)

-- all of them
abbrev pub batches_of_file : SliceFileReaderTree → Result (List RecordBatchTree) IpcReadError
batches_of_file r = batches_at r.state r.bytes r.blocks

-- a file as a value
pub record FileTree : Type 0 where
  pub schema : SchemaModel
  pub batches : List RecordBatchTree

-- the projected schema of a file, and its record batches in the order of the footer
unfoldable pub projected_file_in : ProjectionModel → List ℕ → Result FileTree IpcReadError
projected_file_in picks bytes = do
  reader ← file_reader_in picks bytes
  batches ← batches_of_file reader
  Ok (record { schema = reader.state.picked.schema; batches = batches })

-- of all columns
abbrev pub file_in : List ℕ → Result FileTree IpcReadError
file_in bytes = projected_file_in all bytes

-- a file that the code holds
abbrev pub file_of : File → FileTree
file_of f = record { schema = schema_of f.schema; batches = map record_batch_of f.batches.items }

-- ---- an encoding of readers, by which ghost values are compared

abbrev pub coded_block : Coded Block
coded_block = code_by (ℤ × (ℤ × ℤ)) (coded× coded_ℤ (coded× coded_ℤ coded_ℤ)) (λ b. (b.offset, (b.metadata_length, b.body_length))) (λ p. record { offset = p.0; metadata_length = p.1.0; body_length = p.1.1 }) (λ _. refl)

abbrev pub coded_file_reader : Coded SliceFileReaderTree
coded_file_reader =
    code_by (StateTree × (List ℕ × List Block)) (coded× coded_state (coded× (coded_list coded_ℕ) (coded_list coded_block))) (λ r. (r.state, (r.bytes, r.blocks)))
    (λ p. record { state = p.0; bytes = p.1.0; blocks = p.1.1 }) (λ _. refl)
