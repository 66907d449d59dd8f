-- The plain body of a compressed body: what its buffers decode to, one after the other (Columnar format, RecordBatch message).
use Rattle.std.specs.Prelude.{◌≡◌, ℕ, ◌+◌, ℤ, pos, negsuc, Bool, true, false, List, [], ◌∷◌, ◌++◌, length, take, drop, slice_get, slice_index_or, Some, Result, Ok, Err, nat_le, if◌then◌else◌}
use Rattle.ipc_flatbuf.specs.declared.batch.parts.BufferSpec.{BufferSpec}
use Rattle.ipc_flatbuf.specs.declared.compression.codec.CompressionCodec.{CompressionCodec}
use Rattle.ipc_flatbuf.specs.declared.compression.error.CompressionError.{CompressionError}
use Rattle.ipc_flatbuf.specs.declared.compression.error.CompressionError.TheVariants.{BufferRange}
use Rattle.ipc_arrays.specs.BodyBuffers.{padded, body_of, buffer_specs}
use Rattle.ipc_arrays.specs.CompressionResults.{◌>>=◌}
use Rattle.ipc_arrays.specs.CompressedBuffers.{decompressed}

-- the bytes from an offset on, of a length, which must be within the body
unfoldable pub buffer_slice : List ℕ → ℤ → ℤ → Result (List ℕ) CompressionError
buffer_slice body (pos offset) (pos size) = if nat_le (offset + size) (length body) then Ok (take size (drop offset body)) else Err BufferRange
buffer_slice body (negsuc offset) size = Err BufferRange
buffer_slice body offset (negsuc size) = Err BufferRange

-- ---- a body without compression

-- a buffer at an offset
abbrev pub buffer_spec : ℕ → List ℕ → BufferSpec
buffer_spec offset bytes = record { offset = pos offset; length = pos (length bytes) }

-- the next buffer of a body, and the body with it at its end
abbrev pub laid_out : List ℕ → Result (List ℕ) CompressionError → Result (BufferSpec × List ℕ) CompressionError
laid_out body (Ok bytes) = Ok (buffer_spec (length body) bytes, body ++ padded bytes)
laid_out body (Err e) = Err e

-- ---- the buffers of a compressed body

-- whether buffer i is needed; one without a flag is not
abbrev pub is_needed_at : List Bool → ℕ → Bool
is_needed_at needed i = slice_index_or needed i false

-- the bytes of a buffer; none are read where it is not needed
unfoldable pub needed_slice : List ℕ → Bool → BufferSpec → Result (List ℕ) CompressionError
needed_slice body true buffer = buffer_slice body buffer.offset buffer.length
needed_slice body false buffer = Ok []

-- what a buffer decodes to, which is nothing where it is not needed
unfoldable pub decompressed_buffer : CompressionCodec → List ℕ → Bool → BufferSpec → Result (List ℕ) CompressionError
decompressed_buffer codec body needed buffer = needed_slice body needed buffer >>= decompressed codec

-- what the buffers from index i on decode to
unfoldable pub decompressed_buffers : CompressionCodec → List ℕ → List Bool → ℕ → List BufferSpec → Result (List (List ℕ)) CompressionError
decompressed_buffers codec body needed i [] = Ok []
decompressed_buffers codec body needed i (buffer ∷ buffers) = do
  first ← decompressed_buffer codec body (is_needed_at needed i) buffer
  others ← decompressed_buffers codec body needed (i + 1) buffers
  Ok (first ∷ others)

-- the buffers and the body of the same record batch without compression
unfoldable pub spec_plain_body : CompressionCodec → List ℕ → List BufferSpec → List Bool → Result (List BufferSpec × List ℕ) CompressionError
spec_plain_body codec body buffers needed = decompressed_buffers codec body needed 0 buffers >>= λ contents. Ok (buffer_specs 0 contents, body_of contents)

-- Each buffer of the plain body has the bytes that the buffer of the compressed body decodes to.
abbrev pub DecodesEachBuffer : CompressionCodec → List ℕ → List BufferSpec → List Bool → List BufferSpec → List ℕ → Type 0
DecodesEachBuffer codec body buffers needed plain_buffers plain =
    (i : ℕ) (buffer plain_buffer : BufferSpec) → slice_get buffers i ≡ Some buffer → slice_get plain_buffers i ≡ Some plain_buffer
    → buffer_slice plain plain_buffer.offset plain_buffer.length ≡ decompressed_buffer codec body (is_needed_at needed i) buffer
