-- The bytes of the message of a record batch.
use Rattle.std.specs.Prelude.{◌≡◌, ◌^◌, ◌≤◌, ◌⊎◌, ℕ, ◌+◌, ◌*◌, pos, List, [], ◌∷◌, ◌++◌, length, Option, Some, None}
use Rattle.ipc_flatbuf.specs.declared.batch.parts.FieldNode.{FieldNode}
use Rattle.ipc_flatbuf.specs.declared.batch.parts.BufferSpec.{BufferSpec}
use Rattle.ipc_flatbuf.specs.declared.compression.codec.CompressionCodec.{CompressionCodec}
use Rattle.ipc_flatbuf.specs.declared.error.IpcWriteError.{IpcWriteError}
use Rattle.ipc_flatbuf.specs.declared.error.IpcWriteError.TheVariants.{Memory, Size}
use Rattle.ipc_flatbuf.specs.PartBytes.{u32_bytes, i64_bytes, vector_bytes}
use Rattle.ipc_flatbuf.specs.MessageBytes.{message_bytes}
use Rattle.ipc_flatbuf.specs.declared.message.types.MessageKind.TheVariants.{RecordBatch}
use Rattle.ipc_flatbuf.specs.Compression.{codec_number}
use Rattle.ipc_flatbuf.specs.Batches.{BatchModel}

unfoldable pub node_bytes : FieldNode → List ℕ
node_bytes n = i64_bytes n.length ++ i64_bytes n.null_count

unfoldable pub buffer_bytes : BufferSpec → List ℕ
buffer_bytes r = i64_bytes r.offset ++ i64_bytes r.length

-- The table RecordBatch is at 16. The vectors begin at 4 modulo 8, so that their items are aligned to 8 bytes; count is the number of nodes.
-- Without compression the vector of nodes is at 36.
unfoldable pub plain_head : ℕ → ℕ → List ℕ
plain_head rows count = (10 ∷ 0 ∷ 20 ∷ 0 ∷ 8 ∷ 0 ∷ 4 ∷ 0 ∷ 16 ∷ 0 ∷ 0 ∷ 0 ∷ 0 ∷ 0 ∷ 0 ∷ 0 ∷ 16 ∷ 0 ∷ 0 ∷ 0 ∷ 16 ∷ 0 ∷ 0 ∷ 0 ∷ []) ++ (i64_bytes (pos rows) ++ u32_bytes (12 + 16 * count))

-- the offset of the table BodyCompression, its vtable and the table, up to a multiple of 4 bytes
abbrev pub compression_bytes : CompressionCodec → List ℕ
compression_bytes codec = 12 ∷ 0 ∷ 0 ∷ 0 ∷ 8 ∷ 0 ∷ 6 ∷ 0 ∷ 4 ∷ 0 ∷ 5 ∷ 0 ∷ 8 ∷ 0 ∷ 0 ∷ 0 ∷ codec_number codec ∷ 0 ∷ 0 ∷ 0 ∷ 0 ∷ 0 ∷ 0 ∷ 0 ∷ []

-- with it the table BodyCompression is at 48, and the vector of nodes at 60
unfoldable pub compressed_head : CompressionCodec → ℕ → ℕ → List ℕ
compressed_head codec rows count =
    (12 ∷ 0 ∷ 24 ∷ 0 ∷ 8 ∷ 0 ∷ 4 ∷ 0 ∷ 16 ∷ 0 ∷ 20 ∷ 0 ∷ 0 ∷ 0 ∷ 0 ∷ 0 ∷ 16 ∷ 0 ∷ 0 ∷ 0 ∷ 40 ∷ 0 ∷ 0 ∷ 0 ∷ []) ++ (i64_bytes (pos rows) ++ (u32_bytes (36 + 16 * count) ++ compression_bytes codec))

abbrev pub batch_part_head : Option CompressionCodec → ℕ → ℕ → List ℕ
batch_part_head None rows count = plain_head rows count
batch_part_head (Some codec) rows count = compressed_head codec rows count

unfoldable pub batch_part_bytes : BatchModel → List ℕ
batch_part_bytes b = batch_part_head b.compression b.rows (length b.nodes) ++ (vector_bytes node_bytes b.nodes ++ ((0 ∷ 0 ∷ 0 ∷ 0 ∷ []) ++ vector_bytes buffer_bytes b.buffers))

-- the message of a batch without its body, which has body bytes
unfoldable pub batch_message : BatchModel → ℕ → List ℕ
batch_message b body = message_bytes RecordBatch body 16 (batch_part_bytes b)

-- the error of writing a batch: Memory, or Size where the rows or the metadata of long bytes exceed their types
abbrev pub IsBatchWriteError : BatchModel → ℕ → IpcWriteError → Type 0
IsBatchWriteError b long why = (why ≡ Memory) ⊎ ((why ≡ Size) × ((2 ^ 63 ≤ b.rows) ⊎ (2 ^ 31 ≤ long)))
