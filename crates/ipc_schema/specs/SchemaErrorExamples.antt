-- Worked examples: the first error of fields and schemas (Schema.fbs), and of messages that should be schemas.
use Rattle.std.specs.Prelude.{◌≡◌, ℕ, false, List, [], ◌∷◌, None, Some, Ok, Err, refl}
use Rattle.nest_memory.specs.TypeTree as types
use Rattle.nest_memory.specs.TypeTree.{field}
use Rattle.ipc_flatbuf.specs.declared.error.IpcReadError.TheVariants.{BodyLength, ChildCount, Depth, Endianness, Flatbuffer, Metadata, MissingSchema, UnionIds}
use Rattle.ipc_flatbuf.specs.Flatbuffers.{spec_offset_at, spec_back_from, spec_table_at, spec_field_position, spec_charge_budget, spec_read_table, spec_read_vector, tables_at, structs_at, spec_items_at, spec_str_at, vector_at}
use Rattle.ipc_flatbuf.specs.Messages.{MessageModel}
use Rattle.ipc_flatbuf.specs.declared.message.types.MessageKind.{MessageKind}
use Rattle.ipc_flatbuf.specs.declared.message.types.MessageKind.TheVariants.{RecordBatch, Schema}
use Rattle.ipc_flatbuf.specs.declared.message.types.MetadataVersion.TheVariants.{V5}
use Rattle.ipc_schema.specs.Dictionaries.{no_dictionaries, progress}
use Rattle.ipc_schema.specs.FieldVectors.{tables_in_turn}
use Rattle.ipc_schema.specs.NestedExamples.{union_ids_metadata, union_sparse_metadata}
use Rattle.ipc_schema.specs.Schemas.{schema_parts, spec_field_at, spec_metadata_at, spec_pair_at, spec_schema_at}
use Rattle.ipc_schema.specs.Types.{spec_bare_at, spec_ids_at, spec_union_at}

-- a field without a name at byte 20: the number of its type, and how many children it has, which are not written
abbrev pub field_bytes : ℕ → ℕ → List ℕ
field_bytes tag children =
    18 ∷ 0 ∷ 20 ∷ 0 ∷ 0 ∷ 0 ∷ 0 ∷ 0 ∷ 4 ∷ 0 ∷ 8 ∷ 0 ∷ 0 ∷ 0 ∷ 12 ∷ 0 ∷ 16 ∷ 0 ∷ 0 ∷ 0 ∷ 20 ∷ 0 ∷ 0 ∷ 0 ∷ tag ∷ 0 ∷ 0 ∷ 0 ∷ 16 ∷ 0 ∷ 0 ∷ 0 ∷ 16 ∷ 0 ∷ 0 ∷ 0 ∷ 20 ∷ 0 ∷ 0 ∷ 0 ∷ 4 ∷ 0 ∷ 4 ∷ 0 ∷ 4 ∷ 0 ∷ 0 ∷ 0 ∷ children ∷ 0 ∷ 0 ∷ 0 ∷ 0 ∷ 0 ∷ 0 ∷ 0 ∷ 0 ∷ 0 ∷ 0 ∷ 0 ∷ []

-- a schema at byte 12: its endianness, and how far its fields are; a pair of its custom metadata has neither key nor value
abbrev pub schema_bytes : ℕ → ℕ → List ℕ
schema_bytes endianness fields =
    10 ∷ 0 ∷ 16 ∷ 0 ∷ 4 ∷ 0 ∷ 8 ∷ 0 ∷ 12 ∷ 0 ∷ 0 ∷ 0 ∷ 12 ∷ 0 ∷ 0 ∷ 0 ∷ endianness ∷ 0 ∷ 0 ∷ 0 ∷ fields ∷ 0 ∷ 0 ∷ 0 ∷ 8 ∷ 0 ∷ 0 ∷ 0 ∷ 0 ∷ 0 ∷ 0 ∷ 0 ∷ 1 ∷ 0 ∷ 0 ∷ 0 ∷ 8 ∷ 0 ∷ 0 ∷ 0 ∷ 4 ∷ 0 ∷ 4 ∷ 0 ∷ 4 ∷ 0 ∷ 0 ∷ 0 ∷ []

-- a message of this kind with a body of one byte
abbrev pub message_of : MessageKind → MessageModel
message_of kind = record { root = record { version = V5; kind = kind; header = 28; left = 2296; body_length = 1 }; metadata = []; body = 0 ∷ [] }

pub no_children : spec_field_at 64 (field_bytes 1 0) 20 (progress 200 no_dictionaries) ≡ Ok (field [] types.null false [], progress 176 no_dictionaries)
unfolding spec_offset_at spec_back_from spec_table_at spec_field_position spec_charge_budget spec_read_table spec_read_vector tables_at tables_in_turn spec_items_at spec_str_at spec_bare_at spec_metadata_at spec_field_at
no_children = refl

pub null_with_child : spec_field_at 64 (field_bytes 1 1) 20 (progress 200 no_dictionaries) ≡ Err ChildCount
unfolding spec_offset_at spec_back_from spec_table_at spec_field_position spec_charge_budget spec_read_table spec_read_vector tables_at tables_in_turn spec_items_at spec_str_at spec_bare_at spec_metadata_at spec_field_at
null_with_child = refl

pub list_without_child : spec_field_at 64 (field_bytes 12 0) 20 (progress 200 no_dictionaries) ≡ Err ChildCount
unfolding spec_offset_at spec_back_from spec_table_at spec_field_position spec_charge_budget spec_read_table spec_read_vector tables_at tables_in_turn spec_items_at spec_str_at spec_bare_at spec_metadata_at spec_field_at
list_without_child = refl

pub too_deep : spec_field_at 0 (field_bytes 1 0) 20 (progress 200 no_dictionaries) ≡ Err Depth
unfolding spec_field_at
too_deep = refl

-- two type ids for three fields
pub two_ids : spec_union_at 3 union_ids_metadata 108 20 ≡ Err UnionIds
unfolding spec_offset_at spec_back_from spec_table_at spec_field_position spec_charge_budget spec_read_table spec_read_vector structs_at spec_items_at vector_at spec_ids_at spec_union_at
two_ids = refl

pub many_fields : spec_union_at 128 union_sparse_metadata 100 20 ≡ Err UnionIds
unfolding spec_offset_at spec_back_from spec_table_at spec_field_position spec_charge_budget spec_read_table spec_read_vector structs_at spec_items_at vector_at spec_ids_at spec_union_at
many_fields = refl

-- the vector of fields is outside of the metadata too
pub big_endian : spec_schema_at (schema_bytes 1 100) 12 200 ≡ Err Endianness
unfolding spec_offset_at spec_back_from spec_table_at spec_field_position spec_charge_budget spec_read_table spec_read_vector tables_at tables_in_turn spec_items_at spec_str_at spec_pair_at spec_metadata_at spec_schema_at
big_endian = refl

-- the custom metadata is invalid too
pub fields_outside : spec_schema_at (schema_bytes 0 100) 12 200 ≡ Err Flatbuffer
unfolding spec_offset_at spec_back_from spec_table_at spec_field_position spec_charge_budget spec_read_table spec_read_vector tables_at tables_in_turn spec_items_at spec_str_at spec_pair_at spec_metadata_at spec_schema_at
fields_outside = refl

pub no_pair : spec_schema_at (schema_bytes 0 8) 12 200 ≡ Err Metadata
unfolding spec_offset_at spec_back_from spec_table_at spec_field_position spec_charge_budget spec_read_table spec_read_vector tables_at tables_in_turn spec_items_at spec_str_at spec_pair_at spec_metadata_at spec_schema_at
no_pair = refl

pub no_message : schema_parts None ≡ Err MissingSchema
no_message = refl

-- with a body
pub batch_first : schema_parts (Some (message_of RecordBatch)) ≡ Err MissingSchema
batch_first = refl

pub schema_with_body : schema_parts (Some (message_of Schema)) ≡ Err BodyLength
schema_with_body = refl
