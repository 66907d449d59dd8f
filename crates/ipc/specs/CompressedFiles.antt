-- Files with compressed buffers. Source: Columnar format, "IPC File Format" and "Compression".
use Rattle.std.specs.Prelude.{◌≡◌, ◌⊎◌, ◌^◌, ◌≤◌, ℕ, ◌+◌, pos, Bool, true, false, List, [], ◌∷◌, ◌++◌, length, Option, Some, is_some, Ok}
use Rattle.std.specs.Int.{w64}
use Rattle.std.specs.Int.RustNames.{FitsSigned}
use Rattle.std.specs.List.{AllByRecursion, AllZip, flat_map}
use Rattle.nest_memory.specs.TypeTree.{TypeTree}
use Rattle.ipc_flatbuf.specs.declared.error.IpcWriteError.{IpcWriteError}
use Rattle.ipc_flatbuf.specs.declared.error.IpcWriteError.TheVariants.{Memory, Size}
use Rattle.ipc_flatbuf.specs.declared.compression.codec.CompressionCodec.TheVariants.{Lz4Frame}
use Rattle.ipc_flatbuf.specs.declared.message.types.MessageKind.{MessageKind}
use Rattle.ipc_flatbuf.specs.declared.message.types.MessageKind.TheVariants.{Schema, DictionaryBatch, RecordBatch}
use Rattle.ipc_flatbuf.specs.Messages.{MessageModel, message_at}
use Rattle.ipc_flatbuf.specs.MessageBytes.{end_of_stream}
use Rattle.ipc_schema.specs.Schemas.{SchemaModel}
use Rattle.ipc_schema.specs.SchemaBytes.{schema_message}
use Rattle.ipc_schema.specs.declared.footer.types.Block.{Block}
use Rattle.ipc_schema.specs.Footers.{FooterModel}
use Rattle.ipc_schema.specs.FooterBytes.{file_head, file_end}
use Rattle.ipc_arrays.specs.BodyBuffers.{body_of}
use Rattle.ipc.specs.DictionaryEntries.{DictionaryEntries}
use Rattle.ipc.specs.Streams.{RecordBatchTree, column_types}
use Rattle.ipc.specs.EncodedStreams.{emitted_after, or_error, each_error, error_from, schema_error}
use Rattle.ipc.specs.EncodedFiles.{Blocks, FileState, block_at, no_blocks, file_dictionary_batches, file_state_after, file_state_start, block_length_error, file_batch_error, footer_error, written_footer}
use Rattle.ipc.specs.CompressedBodies.{AreWrittenBuffers}
use Rattle.ipc.specs.CompressedMessages.{BatchMessage, metadata_with, head_with, HeadRoundTrips, compression_error}
use Rattle.ipc.specs.CompressedStreams.{messages_of}

-- ---- files of messages

-- a message of a file: whether it is a dictionary batch, its bytes before the body, its body
pub record FileMessage : Type 0 where
  pub is_dictionary : Bool
  pub head : List ℕ
  pub body : List ℕ

abbrev pub file_message_bytes : FileMessage → List ℕ
file_message_bytes m = m.head ++ m.body

-- blocks with one more before them
abbrev pub with_first_block : Bool → Block → Blocks → Blocks
with_first_block true block blocks = record { dictionaries = block ∷ blocks.dictionaries; batches = blocks.batches }
with_first_block false block blocks = record { dictionaries = blocks.dictionaries; batches = block ∷ blocks.batches }

-- the blocks of messages, of which the first begins at a position
unfoldable pub message_blocks : ℕ → List FileMessage → Blocks
message_blocks position [] = no_blocks
message_blocks position (m ∷ ms) = with_first_block m.is_dictionary (block_at position m.head m.body) (message_blocks (position + length (file_message_bytes m)) ms)

-- blocks, then others
abbrev pub both_blocks : Blocks → Blocks → Blocks
both_blocks first more = record { dictionaries = first.dictionaries ++ more.dictionaries; batches = first.batches ++ more.batches }

-- the messages of a file, with the schema message before them and the end-of-stream marker after them
abbrev pub file_inner : SchemaModel → List FileMessage → List ℕ
file_inner s ms = schema_message s ++ (flat_map file_message_bytes ms ++ end_of_stream)

-- the footer has a block of each message
abbrev pub footer_with_blocks : SchemaModel → Blocks → FooterModel
footer_with_blocks s blocks = record { schema = s; dictionaries = blocks.dictionaries; batches = blocks.batches }

abbrev pub footer_of_messages : SchemaModel → List FileMessage → FooterModel
footer_of_messages s ms = footer_with_blocks s (message_blocks (8 + length (schema_message s)) ms)

-- the magic bytes and padding, the messages, the footer with its length and the magic bytes
unfoldable pub file_of_messages : SchemaModel → List FileMessage → List ℕ
file_of_messages s ms = file_head ++ (file_inner s ms ++ file_end (footer_of_messages s ms))

-- ---- compressed messages

-- the message with the codec LZ4 and these buffers
abbrev pub compressed_part : BatchMessage → List (List ℕ) → FileMessage
compressed_part m buffers = record { is_dictionary = is_some m.dictionary; head = head_with m (Some Lz4Frame) buffers; body = body_of buffers }

-- This message of a file is the message with its buffers compressed, and it is read so.
pub record CompressesMessage (m : BatchMessage) (part : FileMessage) : Type 0 where
  pub buffers : List (List ℕ)
  pub written : AreWrittenBuffers buffers m.contents
  pub is : part ≡ compressed_part m buffers
  pub again : HeadRoundTrips m.dictionary (metadata_with m (Some Lz4Frame) buffers) (head_with m (Some Lz4Frame) buffers) (body_of buffers)

-- messages in order
abbrev pub CompressesMessages : List BatchMessage → List FileMessage → Type 0
CompressesMessages ms parts = AllZip CompressesMessage ms parts

-- These messages are the record batch after its dictionary batches, compressed. The ids have 64 bits.
pub record IsCompressedFileBatch (emitted : DictionaryEntries) (b : RecordBatchTree) (parts : List FileMessage) : Type 0 where
  pub messages : CompressesMessages (messages_of (file_dictionary_batches emitted b) b) parts
  pub ids : AllByRecursion (λ p. FitsSigned w64 p.1.0) (file_dictionary_batches emitted b)

-- record batches in order
abbrev pub AreCompressedFileBatches : DictionaryEntries → List RecordBatchTree → List FileMessage → Type 0
AreCompressedFileBatches emitted [] parts = parts ≡ []
AreCompressedFileBatches emitted (b ∷ bs) parts = (first : List FileMessage) × (others : List FileMessage) × IsCompressedFileBatch emitted b first × AreCompressedFileBatches (emitted_after emitted b) bs others × (parts ≡ first ++ others)

-- a file of compressed record batches
abbrev pub IsCompressedFile : SchemaModel → List RecordBatchTree → List ℕ → Type 0
IsCompressedFile s bs bytes = (parts : List FileMessage) × AreCompressedFileBatches [] bs parts × (bytes ≡ file_of_messages s parts)

-- new and more are old and blocks with these messages and their blocks at the end
abbrev pub AppendsParts : List FileMessage → List ℕ → Blocks → List ℕ → Blocks → Type 0
AppendsParts parts old blocks new more = (new ≡ old ++ flat_map file_message_bytes parts) × (more ≡ both_blocks blocks (message_blocks (length old) parts))

abbrev pub AppendsCompressedParts : List BatchMessage → List ℕ → Blocks → List ℕ → Blocks → Type 0
AppendsCompressedParts ms old blocks new more = (parts : List FileMessage) × CompressesMessages ms parts × AppendsParts parts old blocks new more

abbrev pub AppendsCompressedFileBatch : DictionaryEntries → RecordBatchTree → List ℕ → Blocks → List ℕ → Blocks → Type 0
AppendsCompressedFileBatch emitted b old blocks new more = (parts : List FileMessage) × IsCompressedFileBatch emitted b parts × AppendsParts parts old blocks new more

-- ---- blocks, one after another

-- whether a message of this kind is a dictionary batch
abbrev pub is_dictionary_kind : MessageKind → Bool
is_dictionary_kind Schema = false
is_dictionary_kind DictionaryBatch = true
is_dictionary_kind RecordBatch = false

-- blocks with one more after them
abbrev pub with_last_block : Bool → Block → Blocks → Blocks
with_last_block true block blocks = record { dictionaries = blocks.dictionaries ++ block ∷ []; batches = blocks.batches }
with_last_block false block blocks = record { dictionaries = blocks.dictionaries; batches = blocks.batches ++ block ∷ [] }

-- the block of a message with these lengths
abbrev pub block_of_lengths : ℕ → ℕ → ℕ → Block
block_of_lengths start head body = record { offset = pos start; metadata_length = pos head; body_length = pos body }

-- a block cannot hold this length, or an allocation fails
abbrev pub IsLengthErrorOrMemory : ℕ → IpcWriteError → Type 0
IsLengthErrorOrMemory head why = (why ≡ Memory) ⊎ ((why ≡ Size) × (2 ^ 31 ≤ head))

-- ---- messages that are read back

-- the kind of a message
abbrev pub kind_of_part : Bool → MessageKind
kind_of_part true = DictionaryBatch
kind_of_part false = RecordBatch

-- a message is read as it was written, whatever bytes follow
pub record IsReadBack (part : FileMessage) : Type 0 where
  pub message : MessageModel
  pub again : (rest : List ℕ) → message_at (file_message_bytes part ++ rest) ≡ Ok (Some message, rest)
  pub kind : message.root.kind ≡ kind_of_part part.is_dictionary
  pub long : length message.body ≡ length part.body

-- these bytes are these messages
pub record AreReadBack (parts : List FileMessage) (bytes : List ℕ) : Type 0 where
  pub bytes_are : bytes ≡ flat_map file_message_bytes parts
  pub readable : AllByRecursion IsReadBack parts

-- ---- the first error

-- of messages: a block cannot hold the length
abbrev pub part_length_error : FileMessage → Option IpcWriteError
part_length_error part = block_length_error part.head

-- the same of a compressed message: the length does not depend on those of the buffers
abbrev pub compressed_length_error : BatchMessage → Option IpcWriteError
compressed_length_error m = block_length_error (head_with m (Some Lz4Frame) m.contents)

-- of compressed messages: of their metadata, then of their blocks
abbrev pub compressed_messages_error : List BatchMessage → Option IpcWriteError
compressed_messages_error ms = or_error (each_error compression_error ms) (each_error compressed_length_error ms)

-- of a record batch: as without compression, then of the compressed messages
abbrev pub compressed_file_batch_error : List TypeTree → FileState → RecordBatchTree → Option IpcWriteError
compressed_file_batch_error types f b = or_error (file_batch_error types f b) (compressed_messages_error (messages_of (file_dictionary_batches f.emitted b) b))

-- batch by batch
abbrev pub compressed_file_batches_error : List TypeTree → FileState → List RecordBatchTree → Option IpcWriteError
compressed_file_batches_error types f bs = error_from file_state_after (compressed_file_batch_error types) f bs

-- the messages of a file
abbrev pub compressed_file_messages_error : SchemaModel → List RecordBatchTree → Option IpcWriteError
compressed_file_messages_error s bs = or_error (schema_error s) (compressed_file_batches_error (column_types s) (file_state_start s) bs)

-- of a file: of its messages, then of the footer, which has as many blocks as without compression
abbrev pub compressed_file_error : SchemaModel → List RecordBatchTree → Option IpcWriteError
compressed_file_error s bs = or_error (schema_error s) (or_error (compressed_file_batches_error (column_types s) (file_state_start s) bs) (footer_error (written_footer s bs)))
