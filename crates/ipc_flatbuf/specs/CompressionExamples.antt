-- Worked examples: the metadata of compressed record batches of another writer (two 32-bit rows, the second null, a body of 56 bytes).
use Rattle.std.specs.Prelude.{◌≡◌, ℕ, pos, List, [], ◌∷◌, Some, Ok, Err, refl}
use Rattle.ipc_flatbuf.specs.Flatbuffers.{spec_offset_at, spec_back_from, spec_table_at, spec_field_position, spec_charge_budget, spec_read_table, spec_read_vector, structs_at, spec_items_at, vector_at}
use Rattle.ipc_flatbuf.specs.declared.compression.codec.CompressionCodec.TheVariants.{Lz4Frame, Zstd}
use Rattle.ipc_flatbuf.specs.declared.error.IpcReadError.TheVariants.{UnsupportedCompression}
use Rattle.ipc_flatbuf.specs.Compression.{compression_at}
use Rattle.ipc_flatbuf.specs.Batches.{BatchModel, spec_each_within, spec_all_within, batch_at}

-- the codec is absent, as it is LZ4
abbrev pub lz4_metadata : List ℕ
lz4_metadata =
    20 ∷ 0 ∷ 0 ∷ 0 ∷ 0 ∷ 0 ∷ 0 ∷ 0 ∷ 12 ∷ 0 ∷ 24 ∷ 0 ∷ 6 ∷ 0 ∷ 5 ∷ 0 ∷ 8 ∷ 0 ∷ 12 ∷ 0 ∷ 12 ∷ 0 ∷ 0 ∷ 0 ∷ 0 ∷ 3 ∷ 4 ∷ 0 ∷ 28 ∷ 0 ∷ 0 ∷ 0 ∷ 56 ∷ 0 ∷ 0 ∷ 0 ∷ 0 ∷ 0 ∷ 0 ∷ 0 ∷ 0 ∷ 0 ∷ 0 ∷ 0 ∷ 12 ∷ 0 ∷ 28 ∷ 0 ∷ 16 ∷ 0 ∷ 4 ∷ 0 ∷ 8 ∷ 0 ∷ 12 ∷ 0 ∷ 12 ∷ 0 ∷ 0 ∷ 0 ∷ 72 ∷ 0 ∷ 0 ∷ 0 ∷ 28 ∷ 0 ∷ 0 ∷ 0 ∷ 20 ∷ 0 ∷ 0 ∷ 0 ∷ 2 ∷ 0 ∷ 0 ∷ 0 ∷ 0 ∷ 0 ∷ 0 ∷ 0 ∷ 0 ∷ 0 ∷ 0 ∷ 0 ∷ 4 ∷ 0 ∷ 4 ∷ 0 ∷ 4 ∷ 0 ∷ 0 ∷ 0 ∷ 2 ∷ 0 ∷ 0 ∷ 0 ∷ 0 ∷ 0 ∷ 0 ∷ 0 ∷ 0 ∷ 0 ∷ 0 ∷ 0 ∷ 24 ∷ 0 ∷ 0 ∷ 0 ∷ 0 ∷ 0 ∷ 0 ∷ 0 ∷ 24 ∷ 0 ∷ 0 ∷ 0 ∷ 0 ∷ 0 ∷ 0 ∷ 0 ∷ 31 ∷ 0 ∷ 0 ∷ 0 ∷ 0 ∷ 0 ∷ 0 ∷ 0 ∷ 0 ∷ 0 ∷ 0 ∷ 0 ∷ 1 ∷ 0 ∷ 0 ∷ 0 ∷ 2 ∷ 0 ∷ 0 ∷ 0 ∷ 0 ∷ 0 ∷ 0 ∷ 0 ∷ 1 ∷ 0 ∷ 0 ∷ 0 ∷ 0 ∷ 0 ∷ 0 ∷ 0 ∷ []

abbrev pub lz4_tree : BatchModel
lz4_tree = record {
  rows = 2;
  nodes = record { length = pos 2; null_count = pos 1 } ∷ [];
  buffers = record { offset = pos 0; length = pos 24 } ∷ record { offset = pos 24; length = pos 31 } ∷ [];
  compression = Some Lz4Frame;
}

pub lz4_batch : batch_at lz4_metadata 56 9720 56 ≡ Ok lz4_tree
unfolding spec_offset_at spec_back_from spec_table_at spec_field_position spec_charge_budget spec_read_table spec_read_vector structs_at spec_items_at vector_at compression_at spec_each_within spec_all_within batch_at
lz4_batch = refl

-- the number of the codec is stated
abbrev pub metadata_with : ℕ → List ℕ
metadata_with codec =
    20 ∷ 0 ∷ 0 ∷ 0 ∷ 0 ∷ 0 ∷ 0 ∷ 0 ∷ 12 ∷ 0 ∷ 24 ∷ 0 ∷ 6 ∷ 0 ∷ 5 ∷ 0 ∷ 8 ∷ 0 ∷ 12 ∷ 0 ∷ 12 ∷ 0 ∷ 0 ∷ 0 ∷ 0 ∷ 3 ∷ 4 ∷ 0 ∷ 28 ∷ 0 ∷ 0 ∷ 0 ∷ 56 ∷ 0 ∷ 0 ∷ 0 ∷ 0 ∷ 0 ∷ 0 ∷ 0 ∷ 0 ∷ 0 ∷ 0 ∷ 0 ∷ 12 ∷ 0 ∷ 30 ∷ 0 ∷ 16 ∷ 0 ∷ 4 ∷ 0 ∷ 8 ∷ 0 ∷ 12 ∷ 0 ∷ 12 ∷ 0 ∷ 0 ∷ 0 ∷ 80 ∷ 0 ∷ 0 ∷ 0 ∷ 36 ∷ 0 ∷ 0 ∷ 0 ∷ 24 ∷ 0 ∷ 0 ∷ 0 ∷ 2 ∷ 0 ∷ 0 ∷ 0 ∷ 0 ∷ 0 ∷ 0 ∷ 0 ∷ 0 ∷ 0 ∷ 0 ∷ 0 ∷ 0 ∷ 0 ∷ 6 ∷ 0 ∷ 8 ∷ 0 ∷ 7 ∷ 0 ∷ 6 ∷ 0 ∷ 0 ∷ 0 ∷ 0 ∷ 0 ∷ 0 ∷ codec ∷ 2 ∷ 0 ∷ 0 ∷ 0 ∷ 0 ∷ 0 ∷ 0 ∷ 0 ∷ 0 ∷ 0 ∷ 0 ∷ 0 ∷ 18 ∷ 0 ∷ 0 ∷ 0 ∷ 0 ∷ 0 ∷ 0 ∷ 0 ∷ 24 ∷ 0 ∷ 0 ∷ 0 ∷ 0 ∷ 0 ∷ 0 ∷ 0 ∷ 25 ∷ 0 ∷ 0 ∷ 0 ∷ 0 ∷ 0 ∷ 0 ∷ 0 ∷ 0 ∷ 0 ∷ 0 ∷ 0 ∷ 1 ∷ 0 ∷ 0 ∷ 0 ∷ 2 ∷ 0 ∷ 0 ∷ 0 ∷ 0 ∷ 0 ∷ 0 ∷ 0 ∷ 1 ∷ 0 ∷ 0 ∷ 0 ∷ 0 ∷ 0 ∷ 0 ∷ 0 ∷ []

abbrev pub zstd_tree : BatchModel
zstd_tree = record {
  rows = 2;
  nodes = record { length = pos 2; null_count = pos 1 } ∷ [];
  buffers = record { offset = pos 0; length = pos 18 } ∷ record { offset = pos 24; length = pos 25 } ∷ [];
  compression = Some Zstd;
}

pub zstd_batch : batch_at (metadata_with 1) 56 10232 56 ≡ Ok zstd_tree
unfolding spec_offset_at spec_back_from spec_table_at spec_field_position spec_charge_budget spec_read_table spec_read_vector structs_at spec_items_at vector_at compression_at spec_each_within spec_all_within batch_at
zstd_batch = refl

pub unknown_codec : batch_at (metadata_with 2) 56 10232 56 ≡ Err UnsupportedCompression
unfolding spec_offset_at spec_back_from spec_table_at spec_field_position spec_charge_budget spec_read_table compression_at batch_at
unknown_codec = refl
