-- The bytes of a message: the vtable of the root, the root table, then the part with the header table.
-- Each part is a multiple of 8 bytes (Columnar format, Encapsulated message format).
use Rattle.std.specs.Prelude.{ℕ, ◌+◌, ◌-◌, ◌%◌, pos, List, [], ◌∷◌, ◌++◌, length}
use Rattle.ipc_flatbuf.specs.PartBytes.{i64_bytes, u32_bytes, padding_zeros}
use Rattle.ipc_flatbuf.specs.declared.message.types.MessageKind.{MessageKind}
use Rattle.ipc_flatbuf.specs.declared.message.types.MessageKind.TheVariants.{Schema, DictionaryBatch, RecordBatch}

-- the tag of the header (Message.fbs, union MessageHeader)
abbrev pub header_tag : MessageKind → ℕ
header_tag Schema = 1
header_tag DictionaryBatch = 2
header_tag RecordBatch = 3

-- the root table is at 24, with version V5; the header table is head bytes into the part at 48
unfoldable pub root_bytes : MessageKind → ℕ → ℕ → List ℕ → List ℕ
root_bytes kind body_length head part =
    (24 ∷ 0 ∷ 0 ∷ 0 ∷ 0 ∷ 0 ∷ 0 ∷ 0 ∷ 12 ∷ 0 ∷ 24 ∷ 0 ∷ 16 ∷ 0 ∷ 18 ∷ 0 ∷ 4 ∷ 0 ∷ 8 ∷ 0 ∷ 0 ∷ 0 ∷ 0 ∷ 0 ∷ 16 ∷ 0 ∷ 0 ∷ 0 ∷ [])
    ++ (u32_bytes (20 + head) ++ (i64_bytes (pos body_length) ++ ((4 ∷ 0 ∷ header_tag kind ∷ 0 ∷ 0 ∷ 0 ∷ 0 ∷ 0 ∷ []) ++ part)))

-- the padding_zeros up to the next multiple of 8
abbrev pub padding : ℕ → List ℕ
padding n = padding_zeros ((8 - n % 8) % 8)

-- the continuation indicator, the length, the metadata and its padding
unfoldable pub framed_bytes : List ℕ → List ℕ
framed_bytes metadata = (255 ∷ 255 ∷ 255 ∷ 255 ∷ []) ++ (u32_bytes (length metadata + length (padding (length metadata))) ++ (metadata ++ padding (length metadata)))

-- the length of the metadata of a message with its padding; 8 bytes precede it
abbrev pub metadata_size : List ℕ → ℕ
metadata_size message = length message - 8

-- the end-of-stream marker: the continuation indicator, and 0 as the length
abbrev pub end_of_stream : List ℕ
end_of_stream = 255 ∷ 255 ∷ 255 ∷ 255 ∷ 0 ∷ 0 ∷ 0 ∷ 0 ∷ []

-- a message without its body
unfoldable pub message_bytes : MessageKind → ℕ → ℕ → List ℕ → List ℕ
message_bytes kind body_length head part = framed_bytes (root_bytes kind body_length head part)
