-- The file of another writer, byte by byte: no column, and one batch of three rows.
use Rattle.std.specs.Prelude.{◌≡◌, [], ◌∷◌, Ok, refl}
use Rattle.ipc_flatbuf.specs.Flatbuffers.{spec_offset_at, spec_back_from, spec_table_at, spec_field_position, spec_charge_budget, spec_read_table, spec_read_vector, structs_at, spec_items_at, vector_at}
use Rattle.ipc_flatbuf.specs.Messages.{root_at, spec_first_bytes, spec_after_continuation, spec_message_of_size, spec_sized_message, message_at}
use Rattle.ipc_flatbuf.specs.Compression.{compression_at}
use Rattle.ipc_flatbuf.specs.Batches.{spec_each_within, spec_all_within, batch_at}
use Rattle.ipc_arrays.specs.Projection.{decoded_steps, decoded_projection}
use Rattle.ipc_schema.specs.OutermostIds.{outermost_within}
use Rattle.ipc_schema.specs.FooterExamples as footers
use Rattle.ipc.specs.Streams.{RecordBatchTree, start, record_batch_in}
use Rattle.ipc.specs.Files.{FileTree, spec_message_in_block, batches_at, dictionaries_at, file_reader_in, projected_file_in, file_in}

abbrev pub worked_arrays : RecordBatchTree
worked_arrays = record { rows = 3; columns = [] }

abbrev pub worked_tree : FileTree
worked_tree = record { schema = footers.worked_tree.picked.schema; batches = worked_arrays ∷ [] }

worked_batches : batches_at (start footers.worked_tree.picked) footers.worked_file footers.worked_tree.batches ≡ Ok (worked_arrays ∷ [])
unfolding spec_offset_at spec_back_from spec_table_at spec_field_position spec_charge_budget spec_read_table spec_read_vector structs_at spec_items_at vector_at root_at spec_first_bytes spec_after_continuation spec_message_of_size spec_sized_message message_at spec_each_within spec_all_within compression_at batch_at decoded_steps decoded_projection outermost_within record_batch_in spec_message_in_block batches_at
worked_batches = refl

pub worked : file_in footers.worked_file ≡ Ok worked_tree
unfolding projected_file_in file_reader_in dictionaries_at
worked = rw (footers.worked, worked_batches) refl
