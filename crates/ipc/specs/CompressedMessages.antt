-- Messages of record batches and of dictionary batches, as they are written with and without compression.
use Rattle.std.specs.Prelude.{◌≡◌, ◌^◌, ℕ, ℤ, pos, Bool, nat_le, nat_lt, ◌<◌, List, [], ◌∷◌, ◌++◌, length, Option, Some, None, Result, Ok, Err}
use Rattle.std.specs.Int.{w8, w64}
use Rattle.std.specs.List.{AllByRecursion, flat_map}
use Rattle.ipc_flatbuf.specs.ReadResults.{◌>>=◌}
use Rattle.ipc_flatbuf.specs.declared.error.IpcReadError.{IpcReadError}
use Rattle.ipc_flatbuf.specs.declared.error.IpcReadError.TheVariants.{HeaderType, MissingData}
use Rattle.ipc_flatbuf.specs.declared.error.IpcWriteError.{IpcWriteError}
use Rattle.ipc_flatbuf.specs.declared.batch.parts.FieldNode.{FieldNode}
use Rattle.ipc_flatbuf.specs.declared.compression.codec.CompressionCodec.{CompressionCodec}
use Rattle.ipc_flatbuf.specs.declared.compression.codec.CompressionCodec.TheVariants.{Lz4Frame}
use Rattle.ipc_flatbuf.specs.declared.message.types.MessageKind.{MessageKind}
use Rattle.ipc_flatbuf.specs.declared.message.types.MessageKind.TheVariants.{Schema, DictionaryBatch, RecordBatch}
use Rattle.ipc_flatbuf.specs.Flatbuffers.{number_at, signed_at, field, spec_offset_field, spec_read_table}
use Rattle.ipc_flatbuf.specs.Messages.{MessageModel, message_at}
use Rattle.ipc_flatbuf.specs.MessageBytes.{metadata_size}
use Rattle.ipc_flatbuf.specs.Batches.{BatchModel, batch_at, batch_of, spec_all_within}
use Rattle.ipc_flatbuf.specs.BatchBytes.{batch_message}
use Rattle.ipc_flatbuf.specs.BatchLaws.{BatchRoundTrips}
use Rattle.ipc_flatbuf.specs.DictionaryBytes.{dictionary_message}
use Rattle.ipc_flatbuf.specs.DictionaryLaws.{DictionaryRoundTrips}
use Rattle.ipc_arrays.specs.BodyBuffers.{body_of, buffer_specs}
use Rattle.ipc.specs.EncodedStreams.{or_error, size_error_if}
use Rattle.ipc.specs.CompressedBodies.{AreWrittenBuffers}
use Rattle.ipc.specs.declared.compressed.messages.BatchHeader as declared

-- ---- what a message says

-- The delta flag and the id of a dictionary batch, none of a record batch; the rows, the field nodes, and the buffers without compression.
pub record BatchMessage : Type 0 where
  pub dictionary : Option (Bool × ℤ)
  pub rows : ℕ
  pub nodes : List FieldNode
  pub contents : List (List ℕ)

-- its metadata with this codec and these buffers
abbrev pub metadata_with : BatchMessage → Option CompressionCodec → List (List ℕ) → BatchModel
metadata_with m codec buffers = record { rows = m.rows; nodes = m.nodes; buffers = buffer_specs 0 buffers; compression = codec }

-- ---- bytes

-- the message without its body, which has size bytes
abbrev pub head_bytes : Option (Bool × ℤ) → BatchModel → ℕ → List ℕ
head_bytes None batch size = batch_message batch size
head_bytes (Some d) batch size = dictionary_message d.0 d.1 batch size

abbrev pub head_with : BatchMessage → Option CompressionCodec → List (List ℕ) → List ℕ
head_with m codec buffers = head_bytes m.dictionary (metadata_with m codec buffers) (length (body_of buffers))

-- with its body
abbrev pub bytes_with : BatchMessage → Option CompressionCodec → List (List ℕ) → List ℕ
bytes_with m codec buffers = head_with m codec buffers ++ body_of buffers

abbrev pub plain_bytes : BatchMessage → List ℕ
plain_bytes m = bytes_with m None m.contents

-- ---- reading

abbrev pub data_position : Option ℕ → Result ℕ IpcReadError
data_position None = Err MissingData
data_position (Some position) = Ok position

-- the delta flag, the id and the metadata of a dictionary batch
unfoldable pub dictionary_header_in : MessageModel → Result (Option (Bool × ℤ) × BatchModel) IpcReadError
dictionary_header_in m = do
  table ← spec_read_table m.metadata m.root.header m.root.left
  id ← field (signed_at w64 m.metadata) (pos 0) m.metadata table.0 0
  to ← spec_offset_field m.metadata table.0 1
  position ← data_position to
  delta ← field (number_at w8 m.metadata) 0 m.metadata table.0 2
  batch ← batch_at m.metadata position table.1 m.root.body_length
  Ok (Some (nat_lt 0 delta, id), batch)

abbrev pub header_by_kind : MessageKind → MessageModel → Result (Option (Bool × ℤ) × BatchModel) IpcReadError
header_by_kind Schema m = Err HeaderType
header_by_kind DictionaryBatch m = dictionary_header_in m
header_by_kind RecordBatch m = batch_at m.metadata m.root.header m.root.left m.root.body_length >>= λ batch. Ok (None, batch)

-- the same of a message, by its kind
abbrev pub header_in : MessageModel → Result (Option (Bool × ℤ) × BatchModel) IpcReadError
header_in m = header_by_kind m.root.kind m

-- the value that the code holds
abbrev pub header_of : declared.BatchHeader → Option (Bool × ℤ) × BatchModel
header_of h = (h.dictionary, batch_of h.batch)

-- a message says this, without compression
pub record SaysPlainly (parts : MessageModel) (m : BatchMessage) : Type 0 where
  pub header : header_in parts ≡ Ok (m.dictionary, metadata_with m None m.contents)
  pub body : parts.body ≡ body_of m.contents

-- a message without compression is read as it was written, whatever bytes follow
pub record IsReadable (m : BatchMessage) : Type 0 where
  pub parts : MessageModel
  pub again : (rest : List ℕ) → message_at (plain_bytes m ++ rest) ≡ Ok (Some parts, rest)
  pub says : SaysPlainly parts m

-- these bytes are these messages, without compression
pub record ArePlainMessages (ms : List BatchMessage) (bytes : List ℕ) : Type 0 where
  pub bytes_are : bytes ≡ flat_map plain_bytes ms
  pub readable : AllByRecursion IsReadable ms

-- ---- compressed messages

-- the message and the body are read as they were written
abbrev pub HeadRoundTrips : Option (Bool × ℤ) → BatchModel → List ℕ → List ℕ → Type 0
HeadRoundTrips None batch head body = BatchRoundTrips batch head body
HeadRoundTrips (Some d) batch head body = DictionaryRoundTrips d.0 d.1 batch head body

-- for each body of that length which contains all buffers
abbrev pub HeadRoundTripsWithBodies : Option (Bool × ℤ) → BatchModel → ℕ → Type 0
HeadRoundTripsWithBodies dictionary batch long =
    (body : List ℕ) → length body ≡ long → spec_all_within long batch.buffers ≡ Ok tt → metadata_size (head_bytes dictionary batch long) < 2 ^ 31 → HeadRoundTrips dictionary batch (head_bytes dictionary batch long) body

-- These bytes are the message with the codec LZ4 in its metadata and with its buffers compressed, and they are read so.
pub record IsCompressedMessage (m : BatchMessage) (bytes : List ℕ) : Type 0 where
  pub buffers : List (List ℕ)
  pub written : AreWrittenBuffers buffers m.contents
  pub bytes_are : bytes ≡ bytes_with m (Some Lz4Frame) buffers
  pub again : HeadRoundTrips m.dictionary (metadata_with m (Some Lz4Frame) buffers) (head_with m (Some Lz4Frame) buffers) (body_of buffers)

-- messages in order
abbrev pub AreCompressedMessages : List BatchMessage → List ℕ → Type 0
AreCompressedMessages [] bytes = bytes ≡ []
AreCompressedMessages (m ∷ ms) bytes = (first : List ℕ) × (others : List ℕ) × IsCompressedMessage m first × AreCompressedMessages ms others × (bytes ≡ first ++ others)

-- new is old with them at its end
abbrev pub AppendsCompressedMessage : BatchMessage → List ℕ → List ℕ → Type 0
AppendsCompressedMessage m old new = (bytes : List ℕ) × IsCompressedMessage m bytes × (new ≡ old ++ bytes)

abbrev pub AppendsCompressedMessages : List BatchMessage → List ℕ → List ℕ → Type 0
AppendsCompressedMessages ms old new = (bytes : List ℕ) × AreCompressedMessages ms bytes × (new ≡ old ++ bytes)

-- ---- errors

-- the length of the metadata of a compressed message; it does not depend on the lengths of the buffers
abbrev pub compressed_metadata_size : BatchMessage → ℕ
compressed_metadata_size m = metadata_size (head_with m (Some Lz4Frame) m.contents)

-- the error of a compressed message: its number of rows, or the size of its metadata
abbrev pub compression_error : BatchMessage → Option IpcWriteError
compression_error m = or_error (size_error_if (nat_le (2 ^ 63) m.rows)) (size_error_if (nat_le (2 ^ 31) (compressed_metadata_size m)))
