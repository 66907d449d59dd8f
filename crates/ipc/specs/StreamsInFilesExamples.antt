-- The file of another writer, byte by byte, holds a stream after its first eight bytes: its only block is that of the record batch.
use Rattle.std.specs.Prelude.{List, ℕ, [], ◌∷◌, drop, take, refl}
use Rattle.ipc_flatbuf.specs.Flatbuffers.{spec_offset_at, spec_back_from, spec_table_at, spec_field_position, spec_charge_budget, spec_read_table, spec_read_vector, tables_at, structs_at, spec_items_at, vector_at}
use Rattle.ipc_flatbuf.specs.Messages.{MessageModel, root_at, spec_first_bytes, spec_after_continuation, spec_message_of_size, spec_sized_message, message_at}
use Rattle.ipc_flatbuf.specs.declared.message.types.MessageKind.TheVariants.{RecordBatch}
use Rattle.ipc_flatbuf.specs.declared.message.types.MetadataVersion.TheVariants.{V5}
use Rattle.ipc_schema.specs.ProjectedSchemas.{spec_projected_fields_at, spec_projected_schema_at, spec_projected_schema_in_message, stream_projected_schema_at}
use Rattle.ipc_schema.specs.Projections.{all}
use Rattle.ipc_schema.specs.Schemas.{spec_metadata_at}
use Rattle.ipc_schema.specs.FooterExamples as footers
use Rattle.ipc.specs.Files.{spec_message_in_block}
use Rattle.ipc.specs.StreamsInFiles.{HoldsStream, messages_within}

abbrev pub worked_stream : List ℕ
worked_stream = drop 8 footers.worked_file

abbrev worked_message : MessageModel
worked_message = record { root = record { version = V5; kind = RecordBatch; header = 44; left = 5112; body_length = 0 }; metadata = take 80 (drop 72 footers.worked_file); body = [] }

pub worked_names : HoldsStream all worked_stream footers.worked_file
unfolding spec_offset_at spec_back_from spec_table_at spec_field_position spec_charge_budget spec_read_table spec_read_vector tables_at structs_at spec_items_at vector_at root_at spec_first_bytes spec_after_continuation spec_message_of_size spec_sized_message message_at spec_metadata_at spec_projected_fields_at spec_projected_schema_at spec_projected_schema_in_message stream_projected_schema_at messages_within spec_message_in_block
worked_names = record {
  picked = footers.worked_tree.picked;
  behind = drop 64 footers.worked_file;
  schema = refl;
  messages = worked_message ∷ [];
  after = drop 160 footers.worked_file;
  are = refl;
  footer = footers.worked_tree;
  found = footers.worked;
  same = refl;
  dictionaries = tt;
  batches = (refl, tt);
}
