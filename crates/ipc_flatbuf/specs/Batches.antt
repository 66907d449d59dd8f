-- The record batch that metadata decodes to (Message.fbs: table RecordBatch, structs FieldNode and Buffer).
use Rattle.std.specs.Prelude.{ℕ, ◌+◌, ℤ, pos, negsuc, Bool, false, List, [], ◌∷◌, map, sum, Option, Result, Ok, nat_le}
use Rattle.std.specs.Int.{w64}
use Rattle.ipc_flatbuf.specs.ReadResults.{◌>>=◌, check}
use Rattle.ipc_flatbuf.specs.declared.error.IpcReadError.{IpcReadError}
use Rattle.ipc_flatbuf.specs.declared.error.IpcReadError.TheVariants.{RowCount, BufferRange, BufferSum}
use Rattle.ipc_flatbuf.specs.declared.batch.parts.FieldNode.{FieldNode}
use Rattle.ipc_flatbuf.specs.declared.batch.parts.BufferSpec.{BufferSpec}
use Rattle.ipc_flatbuf.specs.declared.compression.codec.CompressionCodec.{CompressionCodec}
use Rattle.ipc_flatbuf.specs.Compression.{compression_at}
use Rattle.ipc_flatbuf.specs.Flatbuffers.{spec_non_negative, signed_at, field, spec_offset_field, spec_read_table, vector_at}
use Rattle.ipc_flatbuf.specs.declared.batch.metadata.BatchMetadata.{BatchMetadata}

-- the value of a BatchMetadata
pub record BatchModel : Type 0 where
  pub rows : ℕ
  pub nodes : List FieldNode
  pub buffers : List BufferSpec
  pub compression : Option CompressionCodec

abbrev pub spec_node_at : List ℕ → ℕ → Result FieldNode IpcReadError
spec_node_at bytes position = do
  length ← signed_at w64 bytes position
  nulls ← signed_at w64 bytes (position + 8)
  Ok (record { length = length; null_count = nulls })

abbrev pub spec_buffer_at : List ℕ → ℕ → Result BufferSpec IpcReadError
spec_buffer_at bytes position = do
  offset ← signed_at w64 bytes position
  length ← signed_at w64 bytes (position + 8)
  Ok (record { offset = offset; length = length })

-- whether length bytes from an offset are within a body
abbrev pub spec_is_within : ℕ → ℤ → ℤ → Bool
spec_is_within body (pos offset) (pos length) = nat_le (offset + length) body
spec_is_within body (pos offset) (negsuc length) = false
spec_is_within body (negsuc offset) length = false

abbrev pub spec_zero_if_negative : ℤ → ℕ
spec_zero_if_negative (pos n) = n
spec_zero_if_negative (negsuc n) = 0

abbrev pub length_of : BufferSpec → ℕ
length_of r = spec_zero_if_negative r.length

-- each buffer is within the body; the error is that of the first that is not
unfoldable pub spec_each_within : ℕ → List BufferSpec → Result (Unit {0}) IpcReadError
spec_each_within body [] = Ok tt
spec_each_within body (r ∷ rs) = check (spec_is_within body r.offset r.length) BufferRange >>= λ one. spec_each_within body rs

-- and their total length does not exceed the body, so that overlapping buffers need no more memory than the body
unfoldable pub spec_all_within : ℕ → List BufferSpec → Result (Unit {0}) IpcReadError
spec_all_within body rs = spec_each_within body rs >>= λ each. check (nat_le (sum (map length_of rs)) body) BufferSum

-- the record batch whose table is at a position, and whose body has body bytes
unfoldable pub batch_at : List ℕ → ℕ → ℕ → ℕ → Result BatchModel IpcReadError
batch_at bytes position left body = do
  table ← spec_read_table bytes position left
  long ← field (signed_at w64 bytes) (pos 0) bytes table.0 0
  rows ← spec_non_negative RowCount long
  to ← spec_offset_field bytes table.0 3
  compression ← compression_at bytes to table.1
  to ← spec_offset_field bytes table.0 1
  nodes ← vector_at (spec_node_at bytes) 16 bytes to compression.1
  to ← spec_offset_field bytes table.0 2
  buffers ← vector_at (spec_buffer_at bytes) 16 bytes to nodes.1
  inside ← spec_all_within body buffers.0
  Ok (record { rows = rows; nodes = nodes.0; buffers = buffers.0; compression = compression.0 })

-- the value of a Rust BatchMetadata
abbrev pub batch_of : BatchMetadata → BatchModel
batch_of b = record { rows = b.rows; nodes = b.nodes.items; buffers = b.buffers.items; compression = b.compression }
