-- A file that holds the messages of a stream: its blocks are the dictionary batches of the stream in order, and its record batches in order.
use Rattle.std.specs.Prelude.{◌≡◌, ℕ, zero, suc, Bool, ◌==◌, List, [], ◌∷◌, length, Option, Some, None, Result, Ok}
use Rattle.std.specs.List.{AllZip, filter}
use Rattle.ipc_flatbuf.specs.ReadResults.{◌>>=◌}
use Rattle.ipc_flatbuf.specs.declared.error.IpcReadError.{IpcReadError}
use Rattle.ipc_flatbuf.specs.MessageBytes.{header_tag}
use Rattle.ipc_flatbuf.specs.Messages.{MessageModel, message_at}
use Rattle.ipc_flatbuf.specs.declared.message.types.MessageKind.{MessageKind}
use Rattle.ipc_flatbuf.specs.declared.message.types.MessageKind.TheVariants.{DictionaryBatch, RecordBatch}
use Rattle.ipc_schema.specs.Projections.{ProjectionModel}
use Rattle.ipc_schema.specs.ProjectedSchemas.{ProjectedSchemaModel, stream_projected_schema_at}
use Rattle.ipc_schema.specs.ProjectedFooters.{ProjectedFooterModel, projected_footer_in}
use Rattle.ipc_schema.specs.declared.footer.types.Block.{Block}
use Rattle.ipc.specs.Files.{FileTree, block_in, projected_file_in}
use Rattle.ipc.specs.Streams.{RecordBatchTree, StateTree, StreamTree, message_in}
use Rattle.ipc.specs.EncodedStreams.{AreSameBatches}

-- ---- the messages of a stream

-- a message and those after it
abbrev pub with_messages : (List ℕ → Result (List MessageModel × List ℕ) IpcReadError) → Option MessageModel → List ℕ → Result (List MessageModel × List ℕ) IpcReadError
with_messages others None behind = Ok ([], behind)
with_messages others (Some m) behind = others behind >>= λ x. Ok (m ∷ x.0, x.1)

-- in at most this many messages
unfoldable pub messages_within : ℕ → List ℕ → Result (List MessageModel × List ℕ) IpcReadError
messages_within zero bytes = Ok ([], bytes)
messages_within (suc most) bytes = message_at bytes >>= λ next. with_messages (messages_within most) next.0 next.1

-- the messages up to the end of a stream, and the bytes after it
abbrev pub messages_in : List ℕ → Result (List MessageModel × List ℕ) IpcReadError
messages_in bytes = messages_within (suc (length bytes)) bytes

-- the record batch of a message before others
abbrev pub with_batch : Option RecordBatchTree → List RecordBatchTree → List RecordBatchTree
with_batch None others = others
with_batch (Some batch) others = batch ∷ others

-- the record batches of messages in order, and the state after them
unfoldable pub batches_by : StateTree → List MessageModel → Result (List RecordBatchTree × StateTree) IpcReadError
batches_by s [] = Ok ([], s)
batches_by s (m ∷ ms) = message_in s m >>= λ x. batches_by x.1 ms >>= λ others. Ok (with_batch x.0 others.0, others.1)

-- these record batches, and the bytes after them
abbrev pub batches_with_left : List ℕ → Result (List RecordBatchTree × StateTree) IpcReadError → Result (List RecordBatchTree × List ℕ) IpcReadError
batches_with_left after read = read >>= λ x. Ok (x.0, after)

-- ---- the blocks of a file

abbrev pub is_of : MessageKind → MessageModel → Bool
is_of kind m = header_tag m.root.kind == header_tag kind

-- the messages of a kind
abbrev pub messages_of : MessageKind → List MessageModel → List MessageModel
messages_of kind ms = filter (is_of kind) ms

-- blocks are those of these messages in order
abbrev pub AreBlocksOf : MessageKind → ProjectedSchemaModel → List ℕ → List Block → List MessageModel → Type 0
AreBlocksOf kind p bytes blocks ms = AllZip (λ b m. block_in kind p bytes b ≡ Ok m) blocks ms

-- The file has the schema of the stream. Its blocks are the dictionary batches of the stream in order, and the record batches in order.
-- Nothing is required of their positions, or of the bytes between them.
pub record HoldsStream (picks : ProjectionModel) (stream file : List ℕ) : Type 0 where
  pub picked : ProjectedSchemaModel
  pub behind : List ℕ
  pub schema : stream_projected_schema_at picks stream ≡ Ok (picked, behind)
  pub messages : List MessageModel
  pub after : List ℕ
  pub are : messages_in behind ≡ Ok (messages, after)
  pub footer : ProjectedFooterModel
  pub found : projected_footer_in picks file ≡ Ok footer
  pub same : footer.picked ≡ picked
  pub dictionaries : AreBlocksOf DictionaryBatch picked file footer.dictionaries (messages_of DictionaryBatch messages)
  pub batches : AreBlocksOf RecordBatch picked file footer.batches (messages_of RecordBatch messages)

-- the file is read, with the schema and the record batches of the stream
pub record IsReadAsStream (picks : ProjectionModel) (s : StreamTree) (file : List ℕ) : Type 0 where
  pub tree : FileTree
  pub read : projected_file_in picks file ≡ Ok tree
  pub schema : tree.schema ≡ s.schema
  pub batches : AreSameBatches s.batches tree.batches
