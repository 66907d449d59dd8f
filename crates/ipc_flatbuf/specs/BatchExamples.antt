-- Worked examples: the bytes of a record batch of another writer (two 32-bit rows, the second null, a body of 16 bytes),
-- and those of a dictionary batch.
use Rattle.std.specs.Prelude.{◌≡◌, ℕ, pos, true, false, List, [], ◌∷◌, ◌++◌, Some, None, Ok, refl}
use Rattle.std.specs.Int.{w8, w64}
use Rattle.ipc_flatbuf.specs.Flatbuffers.{number_at, signed_at, field, spec_offset_field, spec_offset_at, spec_back_from, spec_table_at, spec_field_position, spec_charge_budget, spec_read_table, spec_read_vector, structs_at, spec_items_at, vector_at}
use Rattle.ipc_flatbuf.specs.PartBytes.{i64_bytes, u32_bytes, vector_bytes}
use Rattle.ipc_flatbuf.specs.declared.tables.FlatbufferTable.{FlatbufferTable}
use Rattle.ipc_flatbuf.specs.MessageBytes.{root_bytes, framed_bytes, message_bytes}
use Rattle.ipc_flatbuf.specs.Messages.{MessageModel, root_at, spec_first_bytes, spec_after_continuation, spec_message_of_size, spec_sized_message, message_at}
use Rattle.ipc_flatbuf.specs.declared.message.types.MessageKind.TheVariants.{DictionaryBatch, RecordBatch}
use Rattle.ipc_flatbuf.specs.declared.message.types.MetadataVersion.TheVariants.{V5}
use Rattle.ipc_flatbuf.specs.declared.message.types.MessageRoot.{MessageRoot}
use Rattle.ipc_flatbuf.specs.Compression.{compression_at}
use Rattle.ipc_flatbuf.specs.Batches.{BatchModel, spec_each_within, spec_all_within, batch_at}
use Rattle.ipc_flatbuf.specs.BatchBytes.{node_bytes, buffer_bytes, plain_head, batch_part_bytes}
use Rattle.ipc_flatbuf.specs.DictionaryBytes.{dictionary_part_head, dictionary_part_bytes, dictionary_message}

abbrev pub worked_message : List ℕ
worked_message =
    255 ∷ 255 ∷ 255 ∷ 255 ∷ 136 ∷ 0 ∷ 0 ∷ 0 ∷ 20 ∷ 0 ∷ 0 ∷ 0 ∷ 12 ∷ 0 ∷ 19 ∷ 0 ∷ 16 ∷ 0 ∷ 18 ∷ 0 ∷ 12 ∷ 0 ∷ 4 ∷ 0 ∷ 0 ∷ 0 ∷ 0 ∷ 0 ∷ 16 ∷ 0 ∷ 0 ∷ 0 ∷ 16 ∷ 0 ∷ 0 ∷ 0 ∷ 0 ∷ 0 ∷ 0 ∷ 0 ∷ 20 ∷ 0 ∷ 0 ∷ 0 ∷ 4 ∷ 0 ∷ 3 ∷ 0 ∷ 10 ∷ 0 ∷ 20 ∷ 0 ∷ 4 ∷ 0 ∷ 12 ∷ 0 ∷ 16 ∷ 0 ∷ 0 ∷ 0 ∷ 12 ∷ 0 ∷ 0 ∷ 0 ∷ 2 ∷ 0 ∷ 0 ∷ 0 ∷ 0 ∷ 0 ∷ 0 ∷ 0 ∷ 12 ∷ 0 ∷ 0 ∷ 0 ∷ 32 ∷ 0 ∷ 0 ∷ 0 ∷ 0 ∷ 0 ∷ 0 ∷ 0 ∷ 1 ∷ 0 ∷ 0 ∷ 0 ∷ 2 ∷ 0 ∷ 0 ∷ 0 ∷ 0 ∷ 0 ∷ 0 ∷ 0 ∷ 1 ∷ 0 ∷ 0 ∷ 0 ∷ 0 ∷ 0 ∷ 0 ∷ 0 ∷ 0 ∷ 0 ∷ 0 ∷ 0 ∷ 2 ∷ 0 ∷ 0 ∷ 0 ∷ 0 ∷ 0 ∷ 0 ∷ 0 ∷ 0 ∷ 0 ∷ 0 ∷ 0 ∷ 1 ∷ 0 ∷ 0 ∷ 0 ∷ 0 ∷ 0 ∷ 0 ∷ 0 ∷ 8 ∷ 0 ∷ 0 ∷ 0 ∷ 0 ∷ 0 ∷ 0 ∷ 0 ∷ 8 ∷ 0 ∷ 0 ∷ 0 ∷ 0 ∷ 0 ∷ 0 ∷ 0 ∷ []

abbrev pub worked_body : List ℕ
worked_body = 1 ∷ 0 ∷ 0 ∷ 0 ∷ 0 ∷ 0 ∷ 0 ∷ 0 ∷ 7 ∷ 0 ∷ 0 ∷ 0 ∷ 0 ∷ 0 ∷ 0 ∷ 0 ∷ []

abbrev pub worked_tree : BatchModel
worked_tree = record {
  rows = 2;
  nodes = record { length = pos 2; null_count = pos 1 } ∷ [];
  buffers = record { offset = pos 0; length = pos 1 } ∷ record { offset = pos 8; length = pos 8 } ∷ [];
  compression = None;
}

-- its metadata
abbrev pub worked_metadata : List ℕ
worked_metadata =
    20 ∷ 0 ∷ 0 ∷ 0 ∷ 12 ∷ 0 ∷ 19 ∷ 0 ∷ 16 ∷ 0 ∷ 18 ∷ 0 ∷ 12 ∷ 0 ∷ 4 ∷ 0 ∷ 0 ∷ 0 ∷ 0 ∷ 0 ∷ 16 ∷ 0 ∷ 0 ∷ 0 ∷ 16 ∷ 0 ∷ 0 ∷ 0 ∷ 0 ∷ 0 ∷ 0 ∷ 0 ∷ 20 ∷ 0 ∷ 0 ∷ 0 ∷ 4 ∷ 0 ∷ 3 ∷ 0 ∷ 10 ∷ 0 ∷ 20 ∷ 0 ∷ 4 ∷ 0 ∷ 12 ∷ 0 ∷ 16 ∷ 0 ∷ 0 ∷ 0 ∷ 12 ∷ 0 ∷ 0 ∷ 0 ∷ 2 ∷ 0 ∷ 0 ∷ 0 ∷ 0 ∷ 0 ∷ 0 ∷ 0 ∷ 12 ∷ 0 ∷ 0 ∷ 0 ∷ 32 ∷ 0 ∷ 0 ∷ 0 ∷ 0 ∷ 0 ∷ 0 ∷ 0 ∷ 1 ∷ 0 ∷ 0 ∷ 0 ∷ 2 ∷ 0 ∷ 0 ∷ 0 ∷ 0 ∷ 0 ∷ 0 ∷ 0 ∷ 1 ∷ 0 ∷ 0 ∷ 0 ∷ 0 ∷ 0 ∷ 0 ∷ 0 ∷ 0 ∷ 0 ∷ 0 ∷ 0 ∷ 2 ∷ 0 ∷ 0 ∷ 0 ∷ 0 ∷ 0 ∷ 0 ∷ 0 ∷ 0 ∷ 0 ∷ 0 ∷ 0 ∷ 1 ∷ 0 ∷ 0 ∷ 0 ∷ 0 ∷ 0 ∷ 0 ∷ 0 ∷ 8 ∷ 0 ∷ 0 ∷ 0 ∷ 0 ∷ 0 ∷ 0 ∷ 0 ∷ 8 ∷ 0 ∷ 0 ∷ 0 ∷ 0 ∷ 0 ∷ 0 ∷ 0 ∷ []

abbrev pub worked_root : MessageRoot
worked_root = record { version = V5; kind = RecordBatch; header = 52; left = 8696; body_length = 16 }

abbrev pub worked_of : MessageModel
worked_of = record { root = worked_root; metadata = worked_metadata; body = worked_body }

pub worked_parts : message_at (worked_message ++ worked_body) ≡ Ok (Some (record { root = worked_root; metadata = worked_metadata; body = worked_body }), [])
unfolding spec_offset_at spec_back_from spec_table_at spec_field_position spec_charge_budget spec_read_table root_at spec_first_bytes spec_after_continuation spec_message_of_size spec_sized_message message_at
worked_parts = refl

pub worked_batch : batch_at worked_metadata 52 8696 16 ≡ Ok worked_tree
unfolding spec_offset_at spec_back_from spec_table_at spec_field_position spec_charge_budget spec_read_table spec_read_vector structs_at spec_items_at vector_at compression_at spec_each_within spec_all_within batch_at
worked_batch = refl

-- ---- a dictionary batch of two 32-bit values with a body of 8 bytes; its id is 515 (bytes 3 and 2), flag is isDelta

abbrev pub values_message : ℕ → List ℕ
values_message flag =
    255 ∷ 255 ∷ 255 ∷ 255 ∷ 176 ∷ 0 ∷ 0 ∷ 0 ∷ 24 ∷ 0 ∷ 0 ∷ 0 ∷ 0 ∷ 0 ∷ 0 ∷ 0 ∷ 12 ∷ 0 ∷ 24 ∷ 0 ∷ 16 ∷ 0 ∷ 18 ∷ 0 ∷ 4 ∷ 0 ∷ 8 ∷ 0 ∷ 0 ∷ 0 ∷ 0 ∷ 0 ∷ 16 ∷ 0 ∷ 0 ∷ 0 ∷ 32 ∷ 0 ∷ 0 ∷ 0 ∷ 8 ∷ 0 ∷ 0 ∷ 0 ∷ 0 ∷ 0 ∷ 0 ∷ 0 ∷ 4 ∷ 0 ∷ 2 ∷ 0 ∷ 0 ∷ 0 ∷ 0 ∷ 0 ∷ 10 ∷ 0 ∷ 20 ∷ 0 ∷ 12 ∷ 0 ∷ 4 ∷ 0 ∷ 8 ∷ 0 ∷ 0 ∷ 0 ∷ 12 ∷ 0 ∷ 0 ∷ 0 ∷ 32 ∷ 0 ∷ 0 ∷ 0 ∷ flag ∷ 0 ∷ 0 ∷ 0 ∷ 3 ∷ 2 ∷ 0 ∷ 0 ∷ 0 ∷ 0 ∷ 0 ∷ 0 ∷ 10 ∷ 0 ∷ 20 ∷ 0 ∷ 8 ∷ 0 ∷ 4 ∷ 0 ∷ 16 ∷ 0 ∷ 0 ∷ 0 ∷ 0 ∷ 0 ∷ 0 ∷ 0 ∷ 16 ∷ 0 ∷ 0 ∷ 0 ∷ 16 ∷ 0 ∷ 0 ∷ 0 ∷ 2 ∷ 0 ∷ 0 ∷ 0 ∷ 0 ∷ 0 ∷ 0 ∷ 0 ∷ 28 ∷ 0 ∷ 0 ∷ 0 ∷ 1 ∷ 0 ∷ 0 ∷ 0 ∷ 2 ∷ 0 ∷ 0 ∷ 0 ∷ 0 ∷ 0 ∷ 0 ∷ 0 ∷ 0 ∷ 0 ∷ 0 ∷ 0 ∷ 0 ∷ 0 ∷ 0 ∷ 0 ∷ 0 ∷ 0 ∷ 0 ∷ 0 ∷ 2 ∷ 0 ∷ 0 ∷ 0 ∷ 0 ∷ 0 ∷ 0 ∷ 0 ∷ 0 ∷ 0 ∷ 0 ∷ 0 ∷ 0 ∷ 0 ∷ 0 ∷ 0 ∷ 0 ∷ 0 ∷ 0 ∷ 0 ∷ 0 ∷ 0 ∷ 0 ∷ 0 ∷ 0 ∷ 0 ∷ 0 ∷ 0 ∷ 8 ∷ 0 ∷ 0 ∷ 0 ∷ 0 ∷ 0 ∷ 0 ∷ 0 ∷ []

abbrev pub values_body : List ℕ
values_body = 5 ∷ 0 ∷ 0 ∷ 0 ∷ 9 ∷ 0 ∷ 0 ∷ 0 ∷ []

abbrev pub values_tree : BatchModel
values_tree = record {
  rows = 2;
  nodes = record { length = pos 2; null_count = pos 0 } ∷ [];
  buffers = record { offset = pos 0; length = pos 0 } ∷ record { offset = pos 0; length = pos 8 } ∷ [];
  compression = None;
}

-- its metadata
abbrev pub values_metadata : ℕ → List ℕ
values_metadata flag =
    24 ∷ 0 ∷ 0 ∷ 0 ∷ 0 ∷ 0 ∷ 0 ∷ 0 ∷ 12 ∷ 0 ∷ 24 ∷ 0 ∷ 16 ∷ 0 ∷ 18 ∷ 0 ∷ 4 ∷ 0 ∷ 8 ∷ 0 ∷ 0 ∷ 0 ∷ 0 ∷ 0 ∷ 16 ∷ 0 ∷ 0 ∷ 0 ∷ 32 ∷ 0 ∷ 0 ∷ 0 ∷ 8 ∷ 0 ∷ 0 ∷ 0 ∷ 0 ∷ 0 ∷ 0 ∷ 0 ∷ 4 ∷ 0 ∷ 2 ∷ 0 ∷ 0 ∷ 0 ∷ 0 ∷ 0 ∷ 10 ∷ 0 ∷ 20 ∷ 0 ∷ 12 ∷ 0 ∷ 4 ∷ 0 ∷ 8 ∷ 0 ∷ 0 ∷ 0 ∷ 12 ∷ 0 ∷ 0 ∷ 0 ∷ 32 ∷ 0 ∷ 0 ∷ 0 ∷ flag ∷ 0 ∷ 0 ∷ 0 ∷ 3 ∷ 2 ∷ 0 ∷ 0 ∷ 0 ∷ 0 ∷ 0 ∷ 0 ∷ 10 ∷ 0 ∷ 20 ∷ 0 ∷ 8 ∷ 0 ∷ 4 ∷ 0 ∷ 16 ∷ 0 ∷ 0 ∷ 0 ∷ 0 ∷ 0 ∷ 0 ∷ 0 ∷ 16 ∷ 0 ∷ 0 ∷ 0 ∷ 16 ∷ 0 ∷ 0 ∷ 0 ∷ 2 ∷ 0 ∷ 0 ∷ 0 ∷ 0 ∷ 0 ∷ 0 ∷ 0 ∷ 28 ∷ 0 ∷ 0 ∷ 0 ∷ 1 ∷ 0 ∷ 0 ∷ 0 ∷ 2 ∷ 0 ∷ 0 ∷ 0 ∷ 0 ∷ 0 ∷ 0 ∷ 0 ∷ 0 ∷ 0 ∷ 0 ∷ 0 ∷ 0 ∷ 0 ∷ 0 ∷ 0 ∷ 0 ∷ 0 ∷ 0 ∷ 0 ∷ 2 ∷ 0 ∷ 0 ∷ 0 ∷ 0 ∷ 0 ∷ 0 ∷ 0 ∷ 0 ∷ 0 ∷ 0 ∷ 0 ∷ 0 ∷ 0 ∷ 0 ∷ 0 ∷ 0 ∷ 0 ∷ 0 ∷ 0 ∷ 0 ∷ 0 ∷ 0 ∷ 0 ∷ 0 ∷ 0 ∷ 0 ∷ 0 ∷ 8 ∷ 0 ∷ 0 ∷ 0 ∷ 0 ∷ 0 ∷ 0 ∷ 0 ∷ []

abbrev pub values_root : MessageRoot
values_root = record { version = V5; kind = DictionaryBatch; header = 60; left = 11256; body_length = 8 }

abbrev pub values_of : ℕ → MessageModel
values_of flag = record { root = values_root; metadata = values_metadata flag; body = values_body }

abbrev pub values_table : FlatbufferTable
values_table = record { at = 60; vtable = 48; size = 10 }

pub values_written : dictionary_message false (pos 515) values_tree 8 ≡ values_message 0
unfolding i64_bytes u32_bytes vector_bytes root_bytes framed_bytes message_bytes node_bytes buffer_bytes plain_head batch_part_bytes dictionary_part_head dictionary_part_bytes dictionary_message
values_written = refl

pub values_parts : message_at (values_message 0 ++ values_body) ≡ Ok (Some (values_of 0), [])
unfolding spec_offset_at spec_back_from spec_table_at spec_field_position spec_charge_budget spec_read_table root_at spec_first_bytes spec_after_continuation spec_message_of_size spec_sized_message message_at
values_parts = refl

pub values_visited : spec_read_table (values_metadata 0) 60 11256 ≡ Ok (values_table, 11248)
unfolding spec_back_from spec_table_at spec_charge_budget spec_read_table
values_visited = refl

pub values_id : field (signed_at w64 (values_metadata 0)) (pos 0) (values_metadata 0) values_table 0 ≡ Ok (pos 515)
unfolding spec_field_position
values_id = refl

pub values_place : spec_offset_field (values_metadata 0) values_table 1 ≡ Ok (Some 96)
unfolding spec_offset_at spec_field_position
values_place = refl

pub values_whole : field (number_at w8 (values_metadata 0)) 0 (values_metadata 0) values_table 2 ≡ Ok 0
unfolding spec_field_position
values_whole = refl

pub values_batch : batch_at (values_metadata 0) 96 11248 8 ≡ Ok values_tree
unfolding spec_offset_at spec_back_from spec_table_at spec_field_position spec_charge_budget spec_read_table spec_read_vector structs_at spec_items_at vector_at compression_at spec_each_within spec_all_within batch_at
values_batch = refl

-- ---- the same values as a delta

pub delta_written : dictionary_message true (pos 515) values_tree 8 ≡ values_message 1
unfolding i64_bytes u32_bytes vector_bytes root_bytes framed_bytes message_bytes node_bytes buffer_bytes plain_head batch_part_bytes dictionary_part_head dictionary_part_bytes dictionary_message
delta_written = refl

pub delta_parts : message_at (values_message 1 ++ values_body) ≡ Ok (Some (values_of 1), [])
unfolding spec_offset_at spec_back_from spec_table_at spec_field_position spec_charge_budget spec_read_table root_at spec_first_bytes spec_after_continuation spec_message_of_size spec_sized_message message_at
delta_parts = refl

pub delta_visited : spec_read_table (values_metadata 1) 60 11256 ≡ Ok (values_table, 11248)
unfolding spec_back_from spec_table_at spec_charge_budget spec_read_table
delta_visited = refl

pub delta_flag : field (number_at w8 (values_metadata 1)) 0 (values_metadata 1) values_table 2 ≡ Ok 1
unfolding spec_field_position
delta_flag = refl
