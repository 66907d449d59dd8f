-- The number of data buffers of each view array (Message.fbs, table RecordBatch, field variadicBufferCounts).
use Rattle.std.specs.Prelude.{ℕ, ℤ, List, Result, Ok}
use Rattle.std.specs.Int.{w64}
use Rattle.ipc_flatbuf.specs.ReadResults.{◌>>=◌}
use Rattle.ipc_flatbuf.specs.declared.error.IpcReadError.{IpcReadError}
use Rattle.ipc_flatbuf.specs.Flatbuffers.{signed_at, spec_offset_field, spec_read_table, vector_at}

-- the counts of the record batch whose table is at a position
unfoldable pub variadic_buffer_counts_at : List ℕ → ℕ → ℕ → Result (List ℤ) IpcReadError
variadic_buffer_counts_at bytes position left = do
  table ← spec_read_table bytes position left
  to ← spec_offset_field bytes table.0 4
  counts ← vector_at (signed_at w64 bytes) 8 bytes to table.1
  Ok counts.0
