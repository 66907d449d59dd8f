-- A stream of another writer that replaces a dictionary, message by message: strings a and b, a batch of two rows, then strings c and d.
use Rattle.std.specs.Prelude.{◌≡◌, ℕ, true, false, pos, List, [], ◌∷◌, None, Ok, Err, length, refl}
use Rattle.std.specs.Str.{is_utf8}
use Rattle.std.proofs.Common.{rules, arith}
use Rattle.std.proofs.lemmas.Str.{IsUtf8-from_ascii, is_utf8-from_IsUtf8}
use Rattle.nest_memory.specs.Rising.{are_offsets}
use Rattle.nest_memory.specs.TypeTree as types
use Rattle.nest_memory.specs.TypeTree.{field}
use Rattle.nest_memory.specs.declared.datatypes.IntegerType.TheVariants.{Int32}
use Rattle.nest_memory.specs.declared.datatypes.physical_type.PrimitiveType.TheVariants as primitives
use Rattle.nest_model.specs.Layout.{Layout, primitive, utf8, dictionary}
use Rattle.ipc_flatbuf.specs.declared.error.IpcReadError.TheVariants.{MissingDictionary, UnknownDictionary, DuplicateDictionary}
use Rattle.ipc_flatbuf.specs.declared.projection.FieldAction.TheVariants.{Read, Skip}
use Rattle.ipc_flatbuf.specs.declared.projection.StoredArray.TheVariants.{Plain, Skipped}
use Rattle.ipc_flatbuf.specs.Flatbuffers.{spec_offset_at, spec_back_from, spec_table_at, spec_field_position, spec_charge_budget, spec_read_table, spec_read_vector, structs_at, spec_items_at, vector_at}
use Rattle.ipc_flatbuf.specs.Messages.{MessageModel}
use Rattle.ipc_flatbuf.specs.declared.message.types.MessageKind.{MessageKind}
use Rattle.ipc_flatbuf.specs.declared.message.types.MessageKind.TheVariants.{DictionaryBatch, RecordBatch}
use Rattle.ipc_flatbuf.specs.declared.message.types.MetadataVersion.TheVariants.{V5}
use Rattle.ipc_schema.specs.OutermostIds.{outermost_within}
use Rattle.ipc_schema.specs.ProjectedSchemas.{ProjectedSchemaModel}
use Rattle.ipc_flatbuf.specs.Compression.{compression_at}
use Rattle.ipc_flatbuf.specs.Batches.{spec_each_within, spec_all_within, batch_at}
use Rattle.ipc_arrays.specs.DictionaryKeys.{zero_at_nulls}
use Rattle.ipc_arrays.specs.FixedWidth.{decoded_natives as stored_in}
use Rattle.ipc_arrays.specs.Decoding.{first_counts, buffer_slice, first_buffer, decoded_validity, decoded_node, decoded_buffer, decoded_validity_buffer, decoded_values, checked_offsets, decoded_offsets, decoded_data, are_utf8, decoded_variable_size_head, decoded_binary_parts, decoded_utf8, decoded_keys_as, first_values, decoded_dictionary_values, decoded_dictionary as keyed_in}
use Rattle.ipc_arrays.specs.Projection.{decoded_steps, decoded_projection}
use Rattle.ipc.specs.Streams.{RecordBatchTree, StateTree, start, record_batch_in, data_in, dictionary_in}

-- a message with this metadata and body
abbrev said : MessageKind → ℕ → List ℕ → List ℕ → MessageModel
said kind header metadata body = record { root = record { version = V5; kind = kind; header = header; left = 1000; body_length = length body }; metadata = metadata; body = body }

abbrev texts_metadata : List ℕ
texts_metadata =
    20 ∷ 0 ∷ 0 ∷ 0 ∷ 12 ∷ 0 ∷ 19 ∷ 0 ∷ 16 ∷ 0 ∷ 18 ∷ 0 ∷ 12 ∷ 0 ∷ 4 ∷ 0 ∷ 0 ∷ 0 ∷ 0 ∷ 0 ∷ 16 ∷ 0 ∷ 0 ∷ 0 ∷ 24 ∷ 0 ∷ 0 ∷ 0 ∷ 0 ∷ 0 ∷ 0 ∷ 0 ∷ 16 ∷ 0 ∷ 0 ∷ 0 ∷ 4 ∷ 0 ∷ 2 ∷ 0 ∷ 8 ∷ 0 ∷ 8 ∷ 0 ∷ 0 ∷ 0 ∷ 4 ∷ 0 ∷ 8 ∷ 0 ∷ 0 ∷ 0 ∷ 16 ∷ 0 ∷ 0 ∷ 0 ∷ 10 ∷ 0 ∷ 20 ∷ 0 ∷ 4 ∷ 0 ∷ 12 ∷ 0 ∷ 16 ∷ 0 ∷ 0 ∷ 0 ∷ 12 ∷ 0 ∷ 0 ∷ 0 ∷ 2 ∷ 0 ∷ 0 ∷ 0 ∷ 0 ∷ 0 ∷ 0 ∷ 0 ∷ 12 ∷ 0 ∷ 0 ∷ 0 ∷ 32 ∷ 0 ∷ 0 ∷ 0 ∷ 0 ∷ 0 ∷ 0 ∷ 0 ∷ 1 ∷ 0 ∷ 0 ∷ 0 ∷ 2 ∷ 0 ∷ 0 ∷ 0 ∷ 0 ∷ 0 ∷ 0 ∷ 0 ∷ 0 ∷ 0 ∷ 0 ∷ 0 ∷ 0 ∷ 0 ∷ 0 ∷ 0 ∷ 0 ∷ 0 ∷ 0 ∷ 0 ∷ 3 ∷ 0 ∷ 0 ∷ 0 ∷ 0 ∷ 0 ∷ 0 ∷ 0 ∷ 0 ∷ 0 ∷ 0 ∷ 0 ∷ 0 ∷ 0 ∷ 0 ∷ 0 ∷ 0 ∷ 0 ∷ 0 ∷ 0 ∷ 0 ∷ 0 ∷ 0 ∷ 0 ∷ 0 ∷ 0 ∷ 0 ∷ 0 ∷ 12 ∷ 0 ∷ 0 ∷ 0 ∷ 0 ∷ 0 ∷ 0 ∷ 0 ∷ 16 ∷ 0 ∷ 0 ∷ 0 ∷ 0 ∷ 0 ∷ 0 ∷ 0 ∷ 2 ∷ 0 ∷ 0 ∷ 0 ∷ 0 ∷ 0 ∷ 0 ∷ 0 ∷ []

-- the same as a delta
abbrev joined_metadata : List ℕ
joined_metadata =
    20 ∷ 0 ∷ 0 ∷ 0 ∷ 12 ∷ 0 ∷ 19 ∷ 0 ∷ 16 ∷ 0 ∷ 18 ∷ 0 ∷ 12 ∷ 0 ∷ 4 ∷ 0 ∷ 0 ∷ 0 ∷ 0 ∷ 0 ∷ 16 ∷ 0 ∷ 0 ∷ 0 ∷ 16 ∷ 0 ∷ 0 ∷ 0 ∷ 0 ∷ 0 ∷ 0 ∷ 0 ∷ 20 ∷ 0 ∷ 0 ∷ 0 ∷ 4 ∷ 0 ∷ 2 ∷ 0 ∷ 10 ∷ 0 ∷ 9 ∷ 0 ∷ 0 ∷ 0 ∷ 4 ∷ 0 ∷ 8 ∷ 0 ∷ 0 ∷ 0 ∷ 12 ∷ 0 ∷ 0 ∷ 0 ∷ 20 ∷ 0 ∷ 0 ∷ 0 ∷ 1 ∷ 0 ∷ 10 ∷ 0 ∷ 20 ∷ 0 ∷ 4 ∷ 0 ∷ 12 ∷ 0 ∷ 16 ∷ 0 ∷ 0 ∷ 0 ∷ 0 ∷ 0 ∷ 14 ∷ 0 ∷ 0 ∷ 0 ∷ 1 ∷ 0 ∷ 0 ∷ 0 ∷ 0 ∷ 0 ∷ 0 ∷ 0 ∷ 12 ∷ 0 ∷ 0 ∷ 0 ∷ 32 ∷ 0 ∷ 0 ∷ 0 ∷ 0 ∷ 0 ∷ 0 ∷ 0 ∷ 1 ∷ 0 ∷ 0 ∷ 0 ∷ 1 ∷ 0 ∷ 0 ∷ 0 ∷ 0 ∷ 0 ∷ 0 ∷ 0 ∷ 0 ∷ 0 ∷ 0 ∷ 0 ∷ 0 ∷ 0 ∷ 0 ∷ 0 ∷ 0 ∷ 0 ∷ 0 ∷ 0 ∷ 3 ∷ 0 ∷ 0 ∷ 0 ∷ 0 ∷ 0 ∷ 0 ∷ 0 ∷ 0 ∷ 0 ∷ 0 ∷ 0 ∷ 0 ∷ 0 ∷ 0 ∷ 0 ∷ 0 ∷ 0 ∷ 0 ∷ 0 ∷ 0 ∷ 0 ∷ 0 ∷ 0 ∷ 0 ∷ 0 ∷ 0 ∷ 0 ∷ 8 ∷ 0 ∷ 0 ∷ 0 ∷ 0 ∷ 0 ∷ 0 ∷ 0 ∷ 8 ∷ 0 ∷ 0 ∷ 0 ∷ 0 ∷ 0 ∷ 0 ∷ 0 ∷ 1 ∷ 0 ∷ 0 ∷ 0 ∷ 0 ∷ 0 ∷ 0 ∷ 0 ∷ []

abbrev rows_metadata : List ℕ
rows_metadata =
    20 ∷ 0 ∷ 0 ∷ 0 ∷ 12 ∷ 0 ∷ 19 ∷ 0 ∷ 16 ∷ 0 ∷ 18 ∷ 0 ∷ 12 ∷ 0 ∷ 4 ∷ 0 ∷ 0 ∷ 0 ∷ 0 ∷ 0 ∷ 16 ∷ 0 ∷ 0 ∷ 0 ∷ 8 ∷ 0 ∷ 0 ∷ 0 ∷ 0 ∷ 0 ∷ 0 ∷ 0 ∷ 20 ∷ 0 ∷ 0 ∷ 0 ∷ 4 ∷ 0 ∷ 3 ∷ 0 ∷ 10 ∷ 0 ∷ 20 ∷ 0 ∷ 4 ∷ 0 ∷ 12 ∷ 0 ∷ 16 ∷ 0 ∷ 0 ∷ 0 ∷ 12 ∷ 0 ∷ 0 ∷ 0 ∷ 2 ∷ 0 ∷ 0 ∷ 0 ∷ 0 ∷ 0 ∷ 0 ∷ 0 ∷ 12 ∷ 0 ∷ 0 ∷ 0 ∷ 32 ∷ 0 ∷ 0 ∷ 0 ∷ 0 ∷ 0 ∷ 0 ∷ 0 ∷ 1 ∷ 0 ∷ 0 ∷ 0 ∷ 2 ∷ 0 ∷ 0 ∷ 0 ∷ 0 ∷ 0 ∷ 0 ∷ 0 ∷ 0 ∷ 0 ∷ 0 ∷ 0 ∷ 0 ∷ 0 ∷ 0 ∷ 0 ∷ 0 ∷ 0 ∷ 0 ∷ 0 ∷ 2 ∷ 0 ∷ 0 ∷ 0 ∷ 0 ∷ 0 ∷ 0 ∷ 0 ∷ 0 ∷ 0 ∷ 0 ∷ 0 ∷ 0 ∷ 0 ∷ 0 ∷ 0 ∷ 0 ∷ 0 ∷ 0 ∷ 0 ∷ 0 ∷ 0 ∷ 0 ∷ 0 ∷ 0 ∷ 0 ∷ 0 ∷ 0 ∷ 8 ∷ 0 ∷ 0 ∷ 0 ∷ 0 ∷ 0 ∷ 0 ∷ 0 ∷ []

-- offsets 0, 1, 2, and two letters
abbrev texts_message : ℕ → ℕ → MessageModel
texts_message one other = said DictionaryBatch 48 texts_metadata (0 ∷ 0 ∷ 0 ∷ 0 ∷ 1 ∷ 0 ∷ 0 ∷ 0 ∷ 2 ∷ 0 ∷ 0 ∷ 0 ∷ 0 ∷ 0 ∷ 0 ∷ 0 ∷ one ∷ other ∷ 0 ∷ 0 ∷ 0 ∷ 0 ∷ 0 ∷ 0 ∷ [])

abbrev pub joined_message : MessageModel
joined_message = said DictionaryBatch 52 joined_metadata (0 ∷ 0 ∷ 0 ∷ 0 ∷ 1 ∷ 0 ∷ 0 ∷ 0 ∷ 99 ∷ 0 ∷ 0 ∷ 0 ∷ 0 ∷ 0 ∷ 0 ∷ 0 ∷ [])

abbrev rows_message : MessageModel
rows_message = said RecordBatch 52 rows_metadata (0 ∷ 0 ∷ 0 ∷ 0 ∷ 1 ∷ 0 ∷ 0 ∷ 0 ∷ [])

-- ---- states

abbrev pub colors : ProjectedSchemaModel
colors = record {
  schema = record { fields = field (97 ∷ []) (types.dictionary Int32 types.utf8 false) false [] ∷ []; metadata = [] };
  steps = Read ∷ [];
  arrays = Plain 2 ∷ [];
  seen = record { ids = pos 0 ∷ []; named = (pos 0, record { values = types.utf8; inside = [] }) ∷ [] };
}

abbrev texts : ℕ → ℕ → Layout
texts one other = utf8 false types.utf8 (0 ∷ 1 ∷ 2 ∷ []) (one ∷ other ∷ []) None

abbrev pub known : ℕ → ℕ → StateTree
known one other = record { picked = colors; known = (pos 0, texts one other) ∷ []; appendable = pos 0 ∷ [] }

abbrev rows : ℕ → ℕ → RecordBatchTree
rows one other = record {
  rows = 2;
  columns = dictionary (types.dictionary Int32 types.utf8 false) (primitive primitives.Int32 types.int32 ((pos 0 ∷ []) ∷ (pos 1 ∷ []) ∷ []) None) (texts one other) ∷ [];
}

-- the same stream with the column skipped
abbrev passed : StateTree
passed = start (record { schema = record { fields = []; metadata = [] }; steps = Skip (record { nodes = 1; buffers = 2; views = 0; has_union = false; has_dictionary = true }) ∷ []; arrays = Skipped (record { nodes = 1; buffers = 2; views = 0; has_union = false; has_dictionary = true }) ∷ []; seen = record { ids = []; named = [] } })

-- one without a dictionary field
abbrev plain : StateTree
plain = start (record { schema = record { fields = []; metadata = [] }; steps = []; arrays = []; seen = record { ids = []; named = [] } })

text_97 : is_utf8 (97 ∷ []) ≡ true
text_97 = is_utf8-from_IsUtf8 (97 ∷ []) (IsUtf8-from_ascii (97 ∷ []) (search (rules, arith)))

text_98 : is_utf8 (98 ∷ []) ≡ true
text_98 = is_utf8-from_IsUtf8 (98 ∷ []) (IsUtf8-from_ascii (98 ∷ []) (search (rules, arith)))

text_99 : is_utf8 (99 ∷ []) ≡ true
text_99 = is_utf8-from_IsUtf8 (99 ∷ []) (IsUtf8-from_ascii (99 ∷ []) (search (rules, arith)))

text_100 : is_utf8 (100 ∷ []) ≡ true
text_100 = is_utf8-from_IsUtf8 (100 ∷ []) (IsUtf8-from_ascii (100 ∷ []) (search (rules, arith)))

texts_ab : are_utf8 (0 ∷ 1 ∷ 2 ∷ []) (97 ∷ 98 ∷ []) ≡ true
unfolding are_utf8
texts_ab = rw (text_97, text_98) refl

texts_cd : are_utf8 (0 ∷ 1 ∷ 2 ∷ []) (99 ∷ 100 ∷ []) ≡ true
unfolding are_utf8
texts_cd = rw (text_99, text_100) refl

-- ---- decoded

comes : dictionary_in false (start colors) (texts_message 97 98) ≡ Ok (known 97 98)
unfolding spec_offset_at spec_back_from spec_table_at spec_field_position spec_charge_budget spec_read_table spec_read_vector structs_at spec_items_at vector_at spec_each_within spec_all_within compression_at batch_at stored_in first_counts buffer_slice first_buffer decoded_validity decoded_node decoded_buffer decoded_validity_buffer decoded_values are_offsets checked_offsets decoded_offsets decoded_data decoded_variable_size_head decoded_binary_parts decoded_utf8 outermost_within data_in dictionary_in
comes = rw texts_ab refl

is_replaced : dictionary_in false (known 97 98) (texts_message 99 100) ≡ Ok (known 99 100)
unfolding spec_offset_at spec_back_from spec_table_at spec_field_position spec_charge_budget spec_read_table spec_read_vector structs_at spec_items_at vector_at spec_each_within spec_all_within compression_at batch_at stored_in first_counts buffer_slice first_buffer decoded_validity decoded_node decoded_buffer decoded_validity_buffer decoded_values are_offsets checked_offsets decoded_offsets decoded_data decoded_variable_size_head decoded_binary_parts decoded_utf8 outermost_within data_in dictionary_in
is_replaced = rw texts_cd refl

names : record_batch_in (known 97 98) rows_message ≡ Ok (rows 97 98)
unfolding spec_offset_at spec_back_from spec_table_at spec_field_position spec_charge_budget spec_read_table spec_read_vector structs_at spec_items_at vector_at spec_each_within spec_all_within compression_at batch_at stored_in first_counts buffer_slice first_buffer decoded_validity decoded_node decoded_buffer decoded_validity_buffer decoded_values zero_at_nulls decoded_keys_as first_values decoded_dictionary_values keyed_in outermost_within decoded_steps decoded_projection record_batch_in
names = refl

is_passed : dictionary_in false passed (texts_message 97 98) ≡ Ok passed
unfolding spec_offset_at spec_back_from spec_table_at spec_field_position spec_charge_budget spec_read_table dictionary_in
is_passed = refl

-- ---- errors

once_more : dictionary_in true (known 97 98) (texts_message 99 100) ≡ Err DuplicateDictionary
unfolding spec_offset_at spec_back_from spec_table_at spec_field_position spec_charge_budget spec_read_table data_in dictionary_in
once_more = refl

is_missing : record_batch_in (start colors) rows_message ≡ Err MissingDictionary
unfolding spec_offset_at spec_back_from spec_table_at spec_field_position spec_charge_budget spec_read_table spec_read_vector structs_at spec_items_at vector_at spec_each_within spec_all_within compression_at batch_at stored_in first_counts buffer_slice first_buffer decoded_validity decoded_node decoded_buffer decoded_validity_buffer decoded_values zero_at_nulls decoded_keys_as first_values decoded_dictionary_values keyed_in outermost_within decoded_steps decoded_projection record_batch_in
is_missing = refl

is_unknown : dictionary_in false plain (texts_message 97 98) ≡ Err UnknownDictionary
unfolding spec_offset_at spec_back_from spec_table_at spec_field_position spec_charge_budget spec_read_table dictionary_in
is_unknown = refl

joins_nothing : dictionary_in false (start colors) joined_message ≡ Err MissingDictionary
unfolding spec_offset_at spec_back_from spec_table_at spec_field_position spec_charge_budget spec_read_table data_in dictionary_in
joins_nothing = refl

abbrev pub AreDictionaries : Type 0
AreDictionaries = (dictionary_in false (start colors) (texts_message 97 98) ≡ Ok (known 97 98))
    × (dictionary_in false (known 97 98) (texts_message 99 100) ≡ Ok (known 99 100))
    × (record_batch_in (known 97 98) rows_message ≡ Ok (rows 97 98))
    × (dictionary_in false passed (texts_message 97 98) ≡ Ok passed)
    × (dictionary_in true (known 97 98) (texts_message 99 100) ≡ Err DuplicateDictionary)
    × (record_batch_in (start colors) rows_message ≡ Err MissingDictionary)
    × (dictionary_in false plain (texts_message 97 98) ≡ Err UnknownDictionary)
    × (dictionary_in false (start colors) joined_message ≡ Err MissingDictionary)

pub are_dictionaries : AreDictionaries
are_dictionaries = (comes, is_replaced, names, is_passed, once_more, is_missing, is_unknown, joins_nothing)
