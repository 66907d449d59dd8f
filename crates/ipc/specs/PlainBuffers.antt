-- The buffers of record batches without compression.
use Rattle.std.specs.Prelude.{ℕ, Bool, true, List, [], map, Option, Some, None, Result, Ok}
use Rattle.ipc_flatbuf.specs.ReadResults.{◌>>=◌}
use Rattle.ipc_flatbuf.specs.declared.error.IpcReadError.{IpcReadError}
use Rattle.ipc_flatbuf.specs.declared.batch.parts.BufferSpec.{BufferSpec}
use Rattle.ipc_flatbuf.specs.declared.compression.codec.CompressionCodec.{CompressionCodec}
use Rattle.ipc_arrays.specs.PlainBodies.{spec_plain_body}
use Rattle.ipc_arrays.specs.Decoding.{with_buffers}
use Rattle.ipc_arrays.specs.Projection.{ProjectionState}
use Rattle.ipc_arrays.specs.Stored.{with_read_error}

-- the needed buffers of a compressed body without compression, and the body that they are in
abbrev pub decompressed_buffers : CompressionCodec → List ℕ → List BufferSpec → List Bool → Result (List BufferSpec × List ℕ) IpcReadError
decompressed_buffers codec body buffers needed = with_read_error (spec_plain_body codec body buffers needed)

-- the same of a body that may be compressed; which buffers are needed matters only then
abbrev pub plain_buffers : Option CompressionCodec → List ℕ → List BufferSpec → Result (List Bool) IpcReadError → Result (List BufferSpec × List ℕ) IpcReadError
plain_buffers None body buffers needed = Ok (buffers, body)
plain_buffers (Some codec) body buffers needed = needed >>= decompressed_buffers codec body buffers

-- each buffer is needed
abbrev pub all_needed : List BufferSpec → List Bool
all_needed buffers = map (λ buffer. true) buffers

-- the nodes, buffers and variadic counts, which conversion looks at
abbrev pub without_dictionaries : ProjectionState → ProjectionState
without_dictionaries ahead = record { rest = record { nodes = ahead.rest.nodes; buffers = ahead.rest.buffers; dictionaries = [] }; more = ahead.more }

-- the same nodes and dictionaries with other buffers
abbrev pub ahead_with_buffers : ProjectionState → List BufferSpec → ProjectionState
ahead_with_buffers ahead buffers = record { rest = with_buffers ahead.rest buffers; more = ahead.more }
