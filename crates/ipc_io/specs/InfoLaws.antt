-- What the laws of `Infos` say, and worked examples: the metadata of other writers.
use Rattle.std.specs.Prelude.{◌≡◌, ℕ, List, [], ◌∷◌, map, Option, None, Some, Result, Ok, Err, refl}
use Rattle.std.proofs.Common.{ap}
use Rattle.ipc_flatbuf.specs.ReadResults.{◌>>=◌}
use Rattle.ipc_flatbuf.specs.declared.error.IpcReadError.{IpcReadError}
use Rattle.ipc_flatbuf.specs.declared.compression.codec.CompressionCodec.{CompressionCodec}
use Rattle.ipc_flatbuf.specs.declared.compression.codec.CompressionCodec.TheVariants.{Lz4Frame, Zstd}
use Rattle.ipc_flatbuf.specs.declared.message.types.MessageKind.TheVariants.{RecordBatch}
use Rattle.ipc_flatbuf.specs.declared.message.types.MessageRoot.{MessageRoot}
use Rattle.ipc_flatbuf.specs.declared.message.types.MetadataVersion.TheVariants.{V5}
use Rattle.ipc_flatbuf.specs.Flatbuffers.{spec_offset_field, spec_offset_at, spec_back_from, spec_table_at, spec_field_position, spec_charge_budget, spec_read_table, spec_read_vector, structs_at, spec_items_at, vector_at}
use Rattle.ipc_flatbuf.specs.Compression.{compression_at}
use Rattle.ipc_flatbuf.specs.Batches.{BatchModel, batch_at, spec_all_within, spec_each_within}
use Rattle.ipc_flatbuf.specs.BatchExamples.{delta_flag, delta_visited, values_batch, values_metadata, values_of, values_place, values_table, values_tree, values_visited, values_whole, worked_batch, worked_of, worked_root}
use Rattle.ipc_flatbuf.specs.CompressionExamples.{lz4_batch, lz4_metadata, metadata_with, zstd_batch}
use Rattle.ipc_io.specs.BatchInfos.{dictionary_info, info_of, message_info, record_batch_info}
use Rattle.ipc_io.specs.Infos.{InfoList}
use Rattle.ipc_io.specs.declared.batch_info.BatchInfo.{BatchInfo}
use Rattle.ipc_io.specs.declared.batch_info.BatchKind.{BatchKind}
use Rattle.ipc_io.specs.declared.batch_info.BatchKind.TheVariants.{Records, Dictionary, Delta}

-- ---- numbers of rows

abbrev pub rows_of_infos : List BatchInfo → List ℕ
rows_of_infos infos = map (λ info. info.rows) infos

abbrev pub rows_unless : List BatchInfo → Option IpcReadError → Result (List ℕ) IpcReadError
rows_unless infos None = Ok (rows_of_infos infos)
rows_unless infos (Some error) = Err error

-- the numbers of rows of batches, or the first error
abbrev pub rows_or_error : InfoList → Result (List ℕ) IpcReadError
rows_or_error l = rows_unless l.read l.error

-- ---- examples: two rows in a message of version 5

abbrev pub two_rows : BatchKind → Option CompressionCodec → BatchInfo
two_rows kind codec = record { version = V5; kind = kind; rows = 2; compression = codec }

abbrev pub root_with : ℕ → MessageRoot
root_with left = record { version = V5; kind = RecordBatch; header = 56; left = left; body_length = 56 }

abbrev as_info : MessageRoot → Result BatchModel IpcReadError → Result BatchInfo IpcReadError
as_info root read = read >>= λ batch. Ok (info_of root Records batch)

pub worked_info : message_info worked_of ≡ Ok (two_rows Records None)
unfolding record_batch_info
worked_info = ap (as_info worked_root) worked_batch

pub lz4_info : record_batch_info (root_with 9720) lz4_metadata ≡ Ok (two_rows Records (Some Lz4Frame))
unfolding record_batch_info
lz4_info = ap (as_info (root_with 9720)) lz4_batch

pub zstd_info : record_batch_info (root_with 10232) (metadata_with 1) ≡ Ok (two_rows Records (Some Zstd))
unfolding record_batch_info
zstd_info = ap (as_info (root_with 10232)) zstd_batch

pub values_info : message_info (values_of 0) ≡ Ok (two_rows Dictionary None)
unfolding dictionary_info
values_info = rw (values_visited, values_place, values_whole, values_batch) refl

delta_place : spec_offset_field (values_metadata 1) values_table 1 ≡ Ok (Some 96)
unfolding spec_offset_at spec_field_position
delta_place = refl

delta_batch : batch_at (values_metadata 1) 96 11248 8 ≡ Ok values_tree
unfolding spec_offset_at spec_back_from spec_table_at spec_field_position spec_charge_budget spec_read_table spec_read_vector structs_at spec_items_at vector_at compression_at spec_each_within spec_all_within batch_at
delta_batch = refl

pub delta_info : message_info (values_of 1) ≡ Ok (two_rows Delta None)
unfolding dictionary_info
delta_info = rw (delta_visited, delta_place, delta_flag, delta_batch) refl
