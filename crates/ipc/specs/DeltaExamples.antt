-- Deltas: a string appended to two strings, by a message of another writer; and records of strings by keys, whose strings are replaced.
use Rattle.std.specs.Prelude.{◌≡◌, ℕ, true, false, pos, [], ◌∷◌, None, Ok, Err, refl}
use Rattle.std.specs.Str.{is_utf8}
use Rattle.std.proofs.Common.{rules, arith}
use Rattle.std.proofs.lemmas.Str.{IsUtf8-from_ascii, is_utf8-from_IsUtf8}
use Rattle.nest_memory.specs.Rising.{are_offsets}
use Rattle.nest_memory.specs.TypeTree as types
use Rattle.nest_memory.specs.TypeTree.{TypeTree, field, no_fields, more_fields}
use Rattle.nest_memory.specs.declared.datatypes.IntegerType.TheVariants.{Int8}
use Rattle.nest_memory.specs.declared.datatypes.physical_type.PrimitiveType.TheVariants as primitives
use Rattle.nest_model.specs.Layout.{Layout, primitive, utf8, struct, dictionary, no_layouts, more_layouts}
use Rattle.ipc_flatbuf.specs.declared.error.IpcReadError.TheVariants.{Delta}
use Rattle.ipc_flatbuf.specs.Flatbuffers.{spec_offset_at, spec_back_from, spec_table_at, spec_field_position, spec_charge_budget, spec_read_table, spec_read_vector, structs_at, spec_items_at, vector_at}
use Rattle.ipc_schema.specs.OutermostIds.{outermost_within}
use Rattle.ipc_schema.specs.ProjectedSchemas.{ProjectedSchemaModel}
use Rattle.ipc_flatbuf.specs.Compression.{compression_at}
use Rattle.ipc_flatbuf.specs.Batches.{spec_each_within, spec_all_within, batch_at}
use Rattle.ipc_arrays.specs.FixedWidth.{decoded_natives as stored_in}
use Rattle.ipc_arrays.specs.Decoding.{first_counts, buffer_slice, first_buffer, decoded_validity, decoded_node, decoded_buffer, decoded_validity_buffer, decoded_values, checked_offsets, decoded_offsets, decoded_data, are_utf8, decoded_variable_size_head, decoded_binary_parts, decoded_utf8}
use Rattle.ipc.specs.Streams.{StateTree, start, data_in, dictionary_in, with_new, spec_with_values}
use Rattle.ipc.specs.DictionaryExamples.{colors, known, joined_message}

-- ---- strings

text_99 : is_utf8 (99 ∷ []) ≡ true
text_99 = is_utf8-from_IsUtf8 (99 ∷ []) (IsUtf8-from_ascii (99 ∷ []) (search (rules, arith)))

texts_c : are_utf8 (0 ∷ 1 ∷ []) (99 ∷ []) ≡ true
unfolding are_utf8
texts_c = rw text_99 refl

-- a, b and c
abbrev three : StateTree
three = record { picked = colors; known = (pos 0, utf8 false types.utf8 (0 ∷ 1 ∷ 2 ∷ 3 ∷ []) (97 ∷ 98 ∷ 99 ∷ []) None) ∷ []; appendable = pos 0 ∷ [] }

is_joined : dictionary_in false (known 97 98) joined_message ≡ Ok three
unfolding spec_offset_at spec_back_from spec_table_at spec_field_position spec_charge_budget spec_read_table spec_read_vector structs_at spec_items_at vector_at spec_each_within spec_all_within compression_at batch_at stored_in first_counts buffer_slice first_buffer decoded_validity decoded_node decoded_buffer decoded_validity_buffer decoded_values are_offsets checked_offsets decoded_offsets decoded_data decoded_variable_size_head decoded_binary_parts decoded_utf8 outermost_within data_in dictionary_in
is_joined = rw texts_c refl

joined_once : dictionary_in true (known 97 98) joined_message ≡ Ok three
unfolding spec_offset_at spec_back_from spec_table_at spec_field_position spec_charge_budget spec_read_table spec_read_vector structs_at spec_items_at vector_at spec_each_within spec_all_within compression_at batch_at stored_in first_counts buffer_slice first_buffer decoded_validity decoded_node decoded_buffer decoded_validity_buffer decoded_values are_offsets checked_offsets decoded_offsets decoded_data decoded_variable_size_head decoded_binary_parts decoded_utf8 outermost_within data_in dictionary_in
joined_once = rw texts_c refl

-- ---- records: the id 1 is nested in 0

abbrev by_key : TypeTree → TypeTree
by_key t = types.dictionary Int8 t false

abbrev record_type : TypeTree
record_type = types.struct (more_fields (field (119 ∷ []) (by_key types.utf8) false []) no_fields)

abbrev shelves : ProjectedSchemaModel
shelves = record {
  schema = record { fields = field (97 ∷ []) (by_key record_type) false [] ∷ []; metadata = [] };
  steps = [];
  arrays = [];
  seen = record { ids = pos 0 ∷ pos 1 ∷ []; named = (pos 0, record { values = record_type; inside = pos 1 ∷ [] }) ∷ (pos 1, record { values = types.utf8; inside = [] }) ∷ [] };
}

-- one word, and one record of it
abbrev word : ℕ → Layout
word letter = utf8 false types.utf8 (0 ∷ 1 ∷ []) (letter ∷ []) None

abbrev shelf : ℕ → Layout
shelf letter = struct record_type (more_layouts (dictionary (by_key types.utf8) (primitive primitives.Int8 types.int8 ((pos 0 ∷ []) ∷ []) None) (word letter)) no_layouts) None

abbrev with_words : StateTree
with_words = with_new (start shelves) (pos 1) (word 97)

abbrev with_both : StateTree
with_both = with_new with_words (pos 0) (shelf 97)

-- the strings that replace them
abbrev with_others : StateTree
with_others = with_new with_both (pos 1) (word 98)

are_fresh : with_both.appendable ≡ pos 0 ∷ pos 1 ∷ []
are_fresh = refl

words_are_fresh : with_others.appendable ≡ pos 1 ∷ []
words_are_fresh = refl

records_again : (with_new with_others (pos 0) (shelf 98)).appendable ≡ pos 0 ∷ pos 1 ∷ []
records_again = refl

over_others : spec_with_values true with_others (pos 0) (shelf 98) ≡ Err Delta
over_others = refl

-- a delta of words leaves the records appendable, and unchanged
abbrev two_words : StateTree
two_words = record { picked = shelves; known = (pos 0, shelf 97) ∷ (pos 1, utf8 false types.utf8 (0 ∷ 1 ∷ 2 ∷ []) (97 ∷ 98 ∷ []) None) ∷ []; appendable = pos 0 ∷ pos 1 ∷ [] }

words_behind : spec_with_values true with_both (pos 1) (word 98) ≡ Ok two_words
words_behind = refl

abbrev pub AreDeltas : Type 0
AreDeltas = (dictionary_in false (known 97 98) joined_message ≡ Ok three)
    × (dictionary_in true (known 97 98) joined_message ≡ Ok three)
    × (with_both.appendable ≡ pos 0 ∷ pos 1 ∷ [])
    × (with_others.appendable ≡ pos 1 ∷ [])
    × ((with_new with_others (pos 0) (shelf 98)).appendable ≡ pos 0 ∷ pos 1 ∷ [])
    × (spec_with_values true with_others (pos 0) (shelf 98) ≡ Err Delta)
    × (spec_with_values true with_both (pos 1) (word 98) ≡ Ok two_words)

pub are_deltas : AreDeltas
are_deltas = (is_joined, joined_once, are_fresh, words_are_fresh, records_again, over_others, words_behind)
