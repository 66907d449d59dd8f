-- The message at the start of bytes (Columnar format, Encapsulated message format and IPC Streaming Format).
use Rattle.std.specs.Prelude.{ℕ, ◌*◌, ℤ, pos, List, [], length, take, drop, Option, Some, None, Result, Ok, Err, nat_le, ◌==◌, if◌then◌else◌}
use Rattle.std.specs.Int.{w8, w16, w32, w64, from_le_bytes, cast_signed}
use Rattle.ipc_flatbuf.specs.ReadResults.{◌>>=◌}
use Rattle.ipc_flatbuf.specs.declared.error.IpcReadError.{IpcReadError}
use Rattle.ipc_flatbuf.specs.declared.error.IpcReadError.TheVariants.{Truncated, MetadataLength, Version, HeaderType, BodyLength}
use Rattle.ipc_flatbuf.specs.Flatbuffers.{spec_non_negative, number_at, signed_at, spec_offset_at, field, spec_offset_field, spec_read_table}
use Rattle.ipc_flatbuf.specs.declared.message.types.MetadataVersion as versions
use Rattle.ipc_flatbuf.specs.declared.message.types.MetadataVersion.TheVariants.{V4, V5}
use Rattle.ipc_flatbuf.specs.declared.message.types.MessageKind.{MessageKind}
use Rattle.ipc_flatbuf.specs.declared.message.types.MessageKind.TheVariants.{Schema, DictionaryBatch, RecordBatch}
use Rattle.ipc_flatbuf.specs.declared.message.types.MessageRoot.{MessageRoot}
use Rattle.ipc_flatbuf.specs.declared.message.types.Message.{Message}

-- Schema.fbs, enum MetadataVersion: V1 to V5 are 0 to 4
abbrev pub spec_version_of : ℤ → Result versions.MetadataVersion IpcReadError
spec_version_of z = spec_non_negative Version z >>= λ n. if n == 3 then Ok V4 else (if n == 4 then Ok V5 else Err Version)

-- Message.fbs, union MessageHeader
abbrev pub spec_kind_of : ℕ → Result MessageKind IpcReadError
spec_kind_of tag = if tag == 1 then Ok Schema else (if tag == 2 then Ok DictionaryBatch else (if tag == 3 then Ok RecordBatch else Err HeaderType))

-- the position of the header, which is required
abbrev pub spec_header_position : Option ℕ → Result ℕ IpcReadError
spec_header_position None = Err HeaderType
spec_header_position (Some position) = Ok position

-- the root table of metadata; its budget is 64 times the length of the metadata
unfoldable pub root_at : List ℕ → Result MessageRoot IpcReadError
root_at bytes = do
  position ← spec_offset_at bytes 0
  table ← spec_read_table bytes position (64 * length bytes)
  number ← field (signed_at w16 bytes) (pos 0) bytes table.0 0
  version ← spec_version_of number
  tag ← field (number_at w8 bytes) 0 bytes table.0 1
  kind ← spec_kind_of tag
  to ← spec_offset_field bytes table.0 2
  header ← spec_header_position to
  long ← field (signed_at w64 bytes) (pos 0) bytes table.0 3
  body ← spec_non_negative BodyLength long
  Ok (record { version = version; kind = kind; header = header; left = table.1; body_length = body })

-- ---- encapsulated messages

-- the value of a Message
pub record MessageModel : Type 0 where
  pub root : MessageRoot
  pub metadata : List ℕ
  pub body : List ℕ

-- the first n bytes, and the rest
unfoldable pub spec_first_bytes : ℕ → List ℕ → Result (List ℕ × List ℕ) IpcReadError
spec_first_bytes n bytes = if nat_le n (length bytes) then Ok (take n bytes, drop n bytes) else Err Truncated

-- The bytes after the continuation indicator FF FF FF FF. It was introduced in version 0.15 of the format: messages written before have none, and begin with the
-- length of their metadata.
unfoldable pub spec_after_continuation : List ℕ → Result (List ℕ) IpcReadError
spec_after_continuation bytes = do
  mark ← spec_first_bytes 4 bytes
  Ok (if from_le_bytes w32 mark.0 == 4294967295 then mark.1 else bytes)

-- the message with size bytes of metadata, and the bytes after its body
unfoldable pub spec_message_of_size : ℕ → List ℕ → Result (MessageModel × List ℕ) IpcReadError
spec_message_of_size size bytes = do
  metadata ← spec_first_bytes size bytes
  root ← root_at metadata.0
  body ← spec_first_bytes root.body_length metadata.1
  Ok (record { root = root; metadata = metadata.0; body = body.0 }, body.1)

-- no message where the length is 0, the end-of-stream marker: 8 bytes with the continuation indicator, 4 without
unfoldable pub spec_sized_message : List ℕ → Result (Option MessageModel × List ℕ) IpcReadError
spec_sized_message bytes = do
  long ← spec_first_bytes 4 bytes
  size ← spec_non_negative MetadataLength (cast_signed w32 (from_le_bytes w32 long.0))
  if size == 0 then Ok (None, long.1) else (spec_message_of_size size long.1 >>= λ parts. Ok (Some parts.0, parts.1))

-- the message at the start of the bytes, and the bytes after it; None at the end of the stream
unfoldable pub message_at : List ℕ → Result (Option MessageModel × List ℕ) IpcReadError
message_at bytes = if length bytes == 0 then Ok (None, []) else (spec_after_continuation bytes >>= spec_sized_message)

-- the value of a Rust Message
abbrev pub model_of : Message → MessageModel
model_of m = record { root = m.root; metadata = m.metadata.now; body = m.body.now }

abbrev pub optional_model_of : Option Message → Option MessageModel
optional_model_of None = None
optional_model_of (Some m) = Some (model_of m)
