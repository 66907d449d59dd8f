-- Worked examples: the metadata of a record batch, and the first error where several fields are wrong (Message.fbs: table RecordBatch).
use Rattle.std.specs.Prelude.{◌≡◌, ℕ, pos, List, [], ◌∷◌, Some, Ok, Err, refl}
use Rattle.ipc_flatbuf.specs.declared.compression.codec.CompressionCodec.TheVariants.{Zstd}
use Rattle.ipc_flatbuf.specs.declared.error.IpcReadError.TheVariants.{BufferRange, BufferSum, RowCount, UnsupportedCompression}
use Rattle.ipc_flatbuf.specs.Flatbuffers.{spec_offset_at, spec_back_from, spec_table_at, spec_field_position, spec_charge_budget, spec_read_table, spec_read_vector, structs_at, spec_items_at, vector_at}
use Rattle.ipc_flatbuf.specs.Compression.{compression_at}
use Rattle.ipc_flatbuf.specs.Batches.{BatchModel, spec_each_within, spec_all_within, batch_at}
use Rattle.ipc_flatbuf.specs.VariadicBuffers.{variadic_buffer_counts_at}

-- the metadata of two buffers: where the table has its rows, 0 where they are absent; a byte of the number of rows, the codec, and the length of the second buffer. The
-- numbers of data buffers of view arrays are the numbers of the buffers' vector.
abbrev pub batch_bytes : ℕ → ℕ → ℕ → ℕ → List ℕ
batch_bytes at_rows sign codec long =
    14 ∷ 0 ∷ 24 ∷ 0 ∷ at_rows ∷ 0 ∷ 4 ∷ 0 ∷ 8 ∷ 0 ∷ 12 ∷ 0 ∷ 8 ∷ 0 ∷ 0 ∷ 0 ∷ 16 ∷ 0 ∷ 0 ∷ 0 ∷ 20 ∷ 0 ∷ 0 ∷ 0 ∷ 36 ∷ 0 ∷ 0 ∷ 0 ∷ 24 ∷ 0 ∷ 0 ∷ 0 ∷ sign ∷ sign ∷ sign ∷ sign ∷ sign ∷ sign ∷ sign ∷ sign ∷ 0 ∷ 0 ∷ 0 ∷ 0 ∷ 6 ∷ 0 ∷ 5 ∷ 0 ∷ 4 ∷ 0 ∷ 0 ∷ 0 ∷ 8 ∷ 0 ∷ 0 ∷ 0 ∷ codec ∷ 0 ∷ 0 ∷ 0 ∷ 2 ∷ 0 ∷ 0 ∷ 0 ∷ 0 ∷ 0 ∷ 0 ∷ 0 ∷ 0 ∷ 0 ∷ 0 ∷ 0 ∷ 8 ∷ 0 ∷ 0 ∷ 0 ∷ 0 ∷ 0 ∷ 0 ∷ 0 ∷ 0 ∷ 0 ∷ 0 ∷ 0 ∷ 0 ∷ 0 ∷ 0 ∷ 0 ∷ long ∷ 0 ∷ 0 ∷ 0 ∷ 0 ∷ 0 ∷ 0 ∷ 0 ∷ []

abbrev pub no_rows : BatchModel
no_rows = record {
  rows = 0;
  nodes = [];
  buffers = record { offset = pos 0; length = pos 8 } ∷ record { offset = pos 0; length = pos 0 } ∷ [];
  compression = Some Zstd;
}

pub zero_rows : batch_at (batch_bytes 16 0 1 0) 16 1000 8 ≡ Ok no_rows
unfolding spec_offset_at spec_back_from spec_table_at spec_field_position spec_charge_budget spec_read_table spec_read_vector structs_at spec_items_at vector_at compression_at spec_each_within spec_all_within batch_at
zero_rows = refl

-- an absent number of rows is 0
pub absent_rows : batch_at (batch_bytes 0 255 1 0) 16 1000 8 ≡ Ok no_rows
unfolding spec_offset_at spec_back_from spec_table_at spec_field_position spec_charge_budget spec_read_table spec_read_vector structs_at spec_items_at vector_at compression_at spec_each_within spec_all_within batch_at
absent_rows = refl

-- -1 rows, an unknown codec, and a buffer past a body of 8 bytes
pub negative_rows : batch_at (batch_bytes 16 255 2 9) 16 1000 8 ≡ Err RowCount
unfolding spec_back_from spec_table_at spec_field_position spec_charge_budget spec_read_table batch_at
negative_rows = refl

pub codec_before_buffers : batch_at (batch_bytes 16 0 2 9) 16 1000 8 ≡ Err UnsupportedCompression
unfolding spec_offset_at spec_back_from spec_table_at spec_field_position spec_charge_budget spec_read_table compression_at batch_at
codec_before_buffers = refl

-- a buffer past the body, so that the total length exceeds it too
pub range_before_sum : batch_at (batch_bytes 16 0 1 9) 16 1000 8 ≡ Err BufferRange
unfolding spec_offset_at spec_back_from spec_table_at spec_field_position spec_charge_budget spec_read_table spec_read_vector structs_at spec_items_at vector_at compression_at spec_each_within spec_all_within batch_at
range_before_sum = refl

-- two buffers of the same 8 bytes
pub overlapping : batch_at (batch_bytes 16 0 1 8) 16 1000 8 ≡ Err BufferSum
unfolding spec_offset_at spec_back_from spec_table_at spec_field_position spec_charge_budget spec_read_table spec_read_vector structs_at spec_items_at vector_at compression_at spec_each_within spec_all_within batch_at
overlapping = refl

pub counts : variadic_buffer_counts_at (batch_bytes 16 0 1 0) 16 1000 ≡ Ok (pos 0 ∷ pos 8 ∷ [])
unfolding spec_offset_at spec_back_from spec_table_at spec_field_position spec_charge_budget spec_read_table spec_read_vector structs_at spec_items_at vector_at variadic_buffer_counts_at
counts = refl
