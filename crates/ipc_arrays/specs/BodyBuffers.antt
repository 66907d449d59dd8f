-- The buffers of a body: one after the other, each padded to a multiple of 8 bytes (Arrow: "RecordBatch message").
use Rattle.std.specs.Prelude.{ℕ, ◌+◌, pos, List, [], ◌∷◌, ◌++◌, length}
use Rattle.std.specs.List.{flat_map}
use Rattle.ipc_flatbuf.specs.MessageBytes.{padding}
use Rattle.ipc_flatbuf.specs.declared.batch.parts.BufferSpec.{BufferSpec}

-- a buffer, padded with zeros to a multiple of 8 bytes
unfoldable pub padded : List ℕ → List ℕ
padded bytes = bytes ++ padding (length bytes)

-- the body of these buffers
unfoldable pub body_of : List (List ℕ) → List ℕ
body_of buffers = flat_map padded buffers

-- their offsets and lengths, the first buffer at `place`
unfoldable pub buffer_specs : ℕ → List (List ℕ) → List BufferSpec
buffer_specs place [] = []
buffer_specs place (bytes ∷ buffers) = record { offset = pos place; length = pos (length bytes) } ∷ buffer_specs (place + length (padded bytes)) buffers
