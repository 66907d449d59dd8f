-- Numbers over all batches of an input, and what is said of all of them.
use Rattle.std.specs.Prelude.{ℕ, Bool, true, false, List, Option, Some, None, ◌||◌, codes, if◌then◌else◌}
use Rattle.std.specs.List.{list_any, sum_by}
use Rattle.ipc_flatbuf.specs.declared.compression.codec.CompressionCodec.{CompressionCodec}
use Rattle.ipc_flatbuf.specs.declared.compression.codec.CompressionCodec.TheVariants.{Lz4Frame, Zstd}
use Rattle.ipc_flatbuf.specs.declared.message.types.MetadataVersion as versions
use Rattle.ipc_flatbuf.specs.declared.message.types.MetadataVersion.TheVariants.{V4, V5}
use Rattle.ipc_io.specs.declared.batch_info.BatchInfo.{BatchInfo}
use Rattle.ipc_io.specs.declared.batch_info.BatchKind.{BatchKind}
use Rattle.ipc_io.specs.declared.batch_info.BatchKind.TheVariants.{Records, Dictionary, Delta}

-- ---- numbers

abbrev pub rows_by : BatchKind → ℕ → ℕ
rows_by Records n = n
rows_by Dictionary n = 0
rows_by Delta n = 0

abbrev pub rows_in : BatchInfo → ℕ
rows_in info = rows_by info.kind info.rows

-- the number of rows of all record batches
abbrev pub spec_row_count : List BatchInfo → ℕ
spec_row_count infos = sum_by rows_in infos

abbrev pub dictionaries_by : BatchKind → ℕ
dictionaries_by Records = 0
dictionaries_by Dictionary = 1
dictionaries_by Delta = 1

abbrev pub dictionaries_in : BatchInfo → ℕ
dictionaries_in info = dictionaries_by info.kind

-- the number of dictionary batches, with deltas
abbrev pub spec_dictionary_count : List BatchInfo → ℕ
spec_dictionary_count infos = sum_by dictionaries_in infos

abbrev pub deltas_by : BatchKind → ℕ
deltas_by Records = 0
deltas_by Dictionary = 0
deltas_by Delta = 1

abbrev pub deltas_in : BatchInfo → ℕ
deltas_in info = deltas_by info.kind

-- the number of delta dictionaries
abbrev pub spec_delta_count : List BatchInfo → ℕ
spec_delta_count infos = sum_by deltas_in infos

-- ---- versions

abbrev pub is_version_4 : versions.MetadataVersion → Bool
is_version_4 V4 = true
is_version_4 V5 = false

abbrev pub is_version_5 : versions.MetadataVersion → Bool
is_version_5 V4 = false
is_version_5 V5 = true

abbrev pub has_version_4 : BatchInfo → Bool
has_version_4 info = is_version_4 info.version

abbrev pub has_version_5 : BatchInfo → Bool
has_version_5 info = is_version_5 info.version

-- the version, if some batches have version 4, and if some have version 5
abbrev pub version_text : Bool → Bool → List ℕ
version_text fours fives = if fours then (if fives then codes "mixed" else codes "V4") else (if fives then codes "V5" else codes "none")

-- ---- compression

abbrev pub codec_is_none : Option CompressionCodec → Bool
codec_is_none None = true
codec_is_none (Some Lz4Frame) = false
codec_is_none (Some Zstd) = false

abbrev pub codec_is_lz4 : Option CompressionCodec → Bool
codec_is_lz4 None = false
codec_is_lz4 (Some Lz4Frame) = true
codec_is_lz4 (Some Zstd) = false

abbrev pub codec_is_zstd : Option CompressionCodec → Bool
codec_is_zstd None = false
codec_is_zstd (Some Lz4Frame) = false
codec_is_zstd (Some Zstd) = true

abbrev pub is_plain : BatchInfo → Bool
is_plain info = codec_is_none info.compression

abbrev pub is_lz4 : BatchInfo → Bool
is_lz4 info = codec_is_lz4 info.compression

abbrev pub is_zstd : BatchInfo → Bool
is_zstd info = codec_is_zstd info.compression

-- the compression, if some batches are not compressed, if some are by LZ4, and if some are by Zstandard
abbrev pub compression_text : Bool → Bool → Bool → List ℕ
compression_text plain lz4 zstd =
    if lz4 then (if plain || zstd then codes "mixed" else codes "lz4") else (if zstd then (if plain then codes "mixed" else codes "zstd") else codes "none")
