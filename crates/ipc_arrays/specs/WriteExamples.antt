-- Sliced nested arrays and dictionary-encoded arrays, and the bytes that they are written as.
use Rattle.std.specs.Prelude.{◌≡◌, ℕ, ℤ, pos, true, false, List, [], ◌∷◌, ◌++◌, map, replicate, Option, Some, None, Ok, refl}
use Rattle.nest_memory.specs.Bits.{bit, bits_from}
use Rattle.nest_memory.specs.Rising.{are_offsets}
use Rattle.nest_memory.specs.TypeTree as types
use Rattle.nest_memory.specs.TypeTree.{TypeTree, FieldTree, FieldTrees, no_fields, more_fields}
use Rattle.nest_memory.specs.declared.datatypes.IntegerType.TheVariants.{Int8 as Keys8, Int32 as Keys32}
use Rattle.nest_memory.specs.declared.datatypes.UnionMode.TheVariants.{Dense, Sparse}
use Rattle.nest_memory.specs.declared.datatypes.physical_type.PrimitiveType.TheVariants.{Int8, Int32}
use Rattle.std.proofs.Common.{ap, sym, subst, ◌∙◌}
use Rattle.nest_model.specs.Accessors.{child_of}
use Rattle.nest_model.specs.Slice.{slice_layout}
use Rattle.nest_model.specs.Layout.{Layout, Layouts, boolean, primitive, utf8, fixed_size_list, list as list_of, map as map_of, struct, union, dictionary, no_layouts, more_layouts, layout_type}
use Rattle.nest_model.specs.Meaning.{len, slots_of}
use Rattle.nest_model.specs.Slot as slots
use Rattle.nest_model.specs.Part.{Validity}
use Rattle.ipc_flatbuf.specs.declared.batch.parts.BufferSpec.{BufferSpec}
use Rattle.ipc_flatbuf.specs.declared.batch.parts.FieldNode.{FieldNode}
use Rattle.ipc_arrays.specs.Decoding.{first_counts, buffer_slice, first_buffer, decoded_bits, decoded_validity, decoded_node, decoded_buffer, decoded_validity_buffer, decoded_values, checked_offsets, decoded_offsets, decoded_variable_size_head, decoded_keys_as, first_values, decoded_dictionary_values, decoded_dictionary, decoded_each, decoded_columns}
use Rattle.ipc_arrays.specs.DictionaryKeys.{zero_at_nulls}
use Rattle.ipc_arrays.specs.ReplacedValues.{IsExtendedBy, AreSameUpToValues}
use Rattle.ipc_arrays.specs.FixedWidth.{decoded_natives, values_bytes}
use Rattle.ipc_arrays.specs.Bitmaps.{byte_value, bitmap_bytes}
use Rattle.ipc_arrays.specs.BodyBuffers.{padded, body_of, buffer_specs}
use Rattle.ipc_arrays.specs.Encoding.{field_node_of, written_arrays, buffers_of, columns_body, dictionaries_of}

-- a column, its field nodes, its buffers, and its body
pub record Column : Type 0 where
  pub column : Layout
  pub nodes : List FieldNode
  pub buffers : List BufferSpec
  pub body : List ℕ

abbrev pub IsWrittenAs : Column → Type 0
IsWrittenAs w = (map field_node_of (written_arrays (w.column ∷ [])) ≡ w.nodes) × (buffer_specs 0 (buffers_of (written_arrays (w.column ∷ []))) ≡ w.buffers) × (columns_body (w.column ∷ []) ≡ w.body)

abbrev node : ℕ → ℕ → FieldNode
node slots nulls = record { length = pos slots; null_count = pos nulls }

abbrev at : ℕ → ℕ → BufferSpec
at place size = record { offset = pos place; length = pos size }

abbrev zeros : ℕ → List ℕ → List ℕ
zeros n after = replicate n 0 ++ after

abbrev item : FieldTree
item = types.field [] types.int8 true []

-- 10, 11, 12, null, 14
abbrev pub items : Layout
items = primitive Int8 types.int8 ((pos 10 ∷ []) ∷ (pos 11 ∷ []) ∷ (pos 12 ∷ []) ∷ (pos 0 ∷ []) ∷ (pos 14 ∷ []) ∷ []) (Some (true ∷ true ∷ true ∷ false ∷ true ∷ []))

-- the second of three lists, [12]: offsets from 0 on, its item, and no validity since no slot is null
abbrev pub sliced_list : Column
sliced_list = record {
  column = list_of false (types.list item) (2 ∷ 3 ∷ []) items (Some (true ∷ []));
  nodes = node 1 0 ∷ node 1 0 ∷ [];
  buffers = at 0 0 ∷ at 0 8 ∷ at 8 0 ∷ at 8 1 ∷ [];
  body = zeros 4 (1 ∷ zeros 3 (12 ∷ zeros 7 []));
}

-- a sliced list of lists: the one inner list of the window, [null, 14], and its items only
abbrev pub sliced_nested_list : Column
sliced_nested_list = record {
  column = list_of true (types.large_list (types.field [] (types.list item) true [])) (2 ∷ 3 ∷ []) (list_of false (types.list item) (0 ∷ 2 ∷ 3 ∷ 5 ∷ 5 ∷ []) items (Some (false ∷ true ∷ true ∷ true ∷ []))) None;
  nodes = node 1 0 ∷ node 1 0 ∷ node 2 1 ∷ [];
  buffers = at 0 0 ∷ at 0 16 ∷ at 16 0 ∷ at 16 8 ∷ at 24 1 ∷ at 32 2 ∷ [];
  body = zeros 8 (1 ∷ zeros 7 (zeros 4 (2 ∷ zeros 3 (2 ∷ zeros 7 (0 ∷ 14 ∷ zeros 6 [])))));
}

-- the second map, which has one entry
abbrev pub sliced_map : Column
sliced_map = record {
  column = map_of (types.map (types.field [] (types.struct (more_fields item (more_fields item no_fields))) false []) false) (1 ∷ 2 ∷ []) (struct (types.struct (more_fields item (more_fields item no_fields))) (more_layouts items (more_layouts items no_layouts)) None) None;
  nodes = node 1 0 ∷ node 1 0 ∷ node 1 0 ∷ node 1 0 ∷ [];
  buffers = at 0 0 ∷ at 0 8 ∷ at 8 0 ∷ at 8 0 ∷ at 8 1 ∷ at 16 0 ∷ at 16 1 ∷ [];
  body = zeros 4 (1 ∷ zeros 3 (11 ∷ zeros 7 (11 ∷ zeros 7 [])));
}

-- two lists of two items; the first is null
abbrev pub fixed_size_lists : Column
fixed_size_lists = record {
  column = fixed_size_list (types.fixed_size_list item 2) (primitive Int8 types.int8 ((pos 12 ∷ []) ∷ (pos 0 ∷ []) ∷ (pos 14 ∷ []) ∷ (pos 15 ∷ []) ∷ []) (Some (true ∷ false ∷ true ∷ true ∷ []))) (Some (false ∷ true ∷ []));
  nodes = node 2 1 ∷ node 4 1 ∷ [];
  buffers = at 0 1 ∷ at 8 1 ∷ at 16 4 ∷ [];
  body = 2 ∷ zeros 7 (13 ∷ zeros 7 (12 ∷ 0 ∷ 14 ∷ 15 ∷ zeros 4 []));
}

-- a struct of a number and a boolean
abbrev pub struct_column : Column
struct_column = record {
  column = struct (types.struct (more_fields item (more_fields (types.field [] types.boolean true []) no_fields))) (more_layouts (primitive Int8 types.int8 ((pos 7 ∷ []) ∷ []) None) (more_layouts (boolean types.boolean (true ∷ []) None) no_layouts)) None;
  nodes = node 1 0 ∷ node 1 0 ∷ node 1 0 ∷ [];
  buffers = at 0 0 ∷ at 0 0 ∷ at 0 1 ∷ at 8 0 ∷ at 8 1 ∷ [];
  body = 7 ∷ zeros 7 (1 ∷ zeros 7 []);
}

abbrev parts_type : TypeTree
parts_type = types.union (more_fields item (more_fields (types.field [] types.boolean true []) no_fields)) (Some (pos 5 ∷ pos 3 ∷ [])) Sparse

abbrev choices : Layout
choices = boolean types.boolean (false ∷ false ∷ true ∷ true ∷ false ∷ []) None

-- two slots of a sparse union from index 2 on: its children are sliced to the window
abbrev pub sliced_sparse_union : Column
sliced_sparse_union = record {
  column = union parts_type (pos 3 ∷ pos 5 ∷ []) (more_layouts items (more_layouts choices no_layouts)) None 2;
  nodes = node 2 0 ∷ node 2 1 ∷ node 2 0 ∷ [];
  buffers = at 0 2 ∷ at 8 1 ∷ at 16 2 ∷ at 24 0 ∷ at 24 1 ∷ [];
  body = 3 ∷ 5 ∷ zeros 6 (1 ∷ zeros 7 (12 ∷ 0 ∷ zeros 6 (3 ∷ zeros 7 [])));
}

-- no slots
abbrev pub empty_sparse_union : Column
empty_sparse_union = record {
  column = union parts_type [] (more_layouts items (more_layouts choices no_layouts)) None 2;
  nodes = node 0 0 ∷ node 0 0 ∷ node 0 0 ∷ [];
  buffers = at 0 0 ∷ at 0 0 ∷ at 0 0 ∷ at 0 0 ∷ at 0 0 ∷ [];
  body = [];
}

-- a slot of a dense union: its children are whole, and its offset is unchanged
abbrev pub sliced_dense_union : Column
sliced_dense_union = record {
  column = union (types.union (more_fields item (more_fields (types.field [] types.boolean true []) no_fields)) None Dense) (pos 1 ∷ []) (more_layouts items (more_layouts choices no_layouts)) (Some (pos 3 ∷ [])) 9;
  nodes = node 1 0 ∷ node 5 1 ∷ node 5 0 ∷ [];
  buffers = at 0 1 ∷ at 8 4 ∷ at 16 1 ∷ at 24 5 ∷ at 32 0 ∷ at 32 1 ∷ [];
  body = 1 ∷ zeros 7 (3 ∷ zeros 7 (23 ∷ zeros 7 (10 ∷ 11 ∷ 12 ∷ 0 ∷ 14 ∷ zeros 3 (12 ∷ zeros 7 []))));
}

-- ---- dictionaries

-- a column, its dictionary values, and the array that is read
pub record Keyed : Type 0 where
  pub written_as : Column
  pub dictionaries : List (Option Layout)
  pub read : Layout

-- its keys are written, and it round-trips over its values
abbrev pub IsDictionaryWrittenAs : Keyed → Type 0
IsDictionaryWrittenAs k =
    IsWrittenAs k.written_as
    × (dictionaries_of (written_arrays (k.written_as.column ∷ [])) ≡ k.dictionaries)
    × (decoded_columns (layout_type k.written_as.column ∷ []) (len k.written_as.column) k.written_as.body (record { nodes = k.written_as.nodes; buffers = k.written_as.buffers; dictionaries = k.dictionaries }) ≡ Ok (k.read ∷ []))

abbrev keyed_type : TypeTree
keyed_type = types.dictionary Keys8 types.utf8 false

-- "a" and "bc"
abbrev words : Layout
words = utf8 false types.utf8 (0 ∷ 1 ∷ 3 ∷ []) (97 ∷ 98 ∷ 99 ∷ []) None

abbrev keys_of : List (List ℤ) → Validity → Layout
keys_of keys validity = dictionary keyed_type (primitive Int8 types.int8 keys validity) words

-- "bc", null (its key is 1), "a", "bc"
abbrev pub four_words : Layout
four_words = keys_of ((pos 1 ∷ []) ∷ (pos 1 ∷ []) ∷ (pos 0 ∷ []) ∷ (pos 1 ∷ []) ∷ []) (Some (true ∷ false ∷ true ∷ true ∷ []))

-- the key of the null slot is written as 0
abbrev pub dictionary_words : Keyed
dictionary_words = record {
  written_as = record {
    column = four_words;
    nodes = node 4 1 ∷ [];
    buffers = at 0 1 ∷ at 8 4 ∷ [];
    body = 13 ∷ zeros 7 (1 ∷ 0 ∷ 0 ∷ 1 ∷ zeros 4 []);
  };
  dictionaries = Some words ∷ [];
  read = keys_of ((pos 1 ∷ []) ∷ (pos 0 ∷ []) ∷ (pos 0 ∷ []) ∷ (pos 1 ∷ []) ∷ []) (Some (true ∷ false ∷ true ∷ true ∷ []));
}

-- the last two slots: two keys, and all values
abbrev pub sliced_words : Keyed
sliced_words = record {
  written_as = record {
    column = slice_layout four_words 2 2;
    nodes = node 2 0 ∷ [];
    buffers = at 0 0 ∷ at 0 2 ∷ [];
    body = 0 ∷ 1 ∷ zeros 6 [];
  };
  dictionaries = Some words ∷ [];
  read = keys_of ((pos 0 ∷ []) ∷ (pos 1 ∷ []) ∷ []) None;
}

-- keys of a date type are read as keys of the integer type
abbrev pub date_key_words : Keyed
date_key_words = record {
  written_as = record {
    column = dictionary (types.dictionary Keys32 types.utf8 false) (primitive Int32 types.date32 ((pos 1 ∷ []) ∷ []) None) words;
    nodes = node 1 0 ∷ [];
    buffers = at 0 0 ∷ at 0 4 ∷ [];
    body = 1 ∷ zeros 7 [];
  };
  dictionaries = Some words ∷ [];
  read = dictionary (types.dictionary Keys32 types.utf8 false) (primitive Int32 types.int32 ((pos 1 ∷ []) ∷ []) None) words;
}

-- a list of two of the words: the null and "a"
abbrev pub listed_words : Keyed
listed_words = record {
  written_as = record {
    column = list_of false (types.list (types.field [] keyed_type true [])) (1 ∷ 3 ∷ []) four_words None;
    nodes = node 1 0 ∷ node 2 1 ∷ [];
    buffers = at 0 0 ∷ at 0 8 ∷ at 8 1 ∷ at 16 2 ∷ [];
    body = zeros 4 (2 ∷ zeros 3 (2 ∷ zeros 7 (0 ∷ 0 ∷ zeros 6 [])));
  };
  dictionaries = Some words ∷ [];
  read = list_of false (types.list (types.field [] keyed_type true [])) (0 ∷ 2 ∷ []) (keys_of ((pos 0 ∷ []) ∷ (pos 0 ∷ []) ∷ []) (Some (false ∷ true ∷ []))) None;
}

-- the same words, over data with unused bytes
abbrev moved_words : Layout
moved_words = utf8 false types.utf8 (2 ∷ 3 ∷ 5 ∷ []) (120 ∷ 120 ∷ 97 ∷ 98 ∷ 99 ∷ []) None

-- the words followed by another one
abbrev more_words : Layout
more_words = utf8 false types.utf8 (0 ∷ 1 ∷ 3 ∷ 4 ∷ []) (97 ∷ 98 ∷ 99 ∷ 100 ∷ []) None

-- the words in another order
abbrev turned_words : Layout
turned_words = utf8 false types.utf8 (0 ∷ 2 ∷ 3 ∷ []) (98 ∷ 99 ∷ 97 ∷ []) None

abbrev over_words : Layout → Layout
over_words values = list_of false (types.list (types.field [] keyed_type true [])) (1 ∷ 3 ∷ []) (dictionary keyed_type (primitive Int8 types.int8 ((pos 1 ∷ []) ∷ (pos 1 ∷ []) ∷ (pos 0 ∷ []) ∷ []) None) values) None

-- a list of words matches the same list over an extended dictionary
pub record ExtendedWordsMatch : Type 0 where
  pub moved : AreSameUpToValues (over_words words ∷ []) (over_words moved_words ∷ [])
  pub more : AreSameUpToValues (over_words words ∷ []) (over_words more_words ∷ [])
  pub fewer : AreSameUpToValues (over_words more_words ∷ []) (over_words words ∷ []) → ⊥
  pub turned : AreSameUpToValues (over_words words ∷ []) (over_words turned_words ∷ []) → ⊥

-- a list of structs of these fields
abbrev listed_records : FieldTrees → Layouts → Layout
listed_records fields values = list_of false (types.list (types.field [] (types.struct fields) true [])) (0 ∷ 4 ∷ []) (struct (types.struct fields) values None) None

abbrev four_truths : Layout
four_truths = boolean types.boolean (true ∷ false ∷ true ∷ true ∷ []) None

-- of which one is dictionary-encoded
abbrev pub structs_with_dictionary : Layout
structs_with_dictionary = listed_records (more_fields (types.field [] types.boolean true []) (more_fields (types.field [] keyed_type true []) no_fields)) (more_layouts four_truths (more_layouts four_words no_layouts))

abbrev pub structs_without_dictionary : Layout
structs_without_dictionary = listed_records (more_fields (types.field [] types.boolean true []) no_fields) (more_layouts four_truths no_layouts)

pub row_written : IsWrittenAs sliced_list
unfolding values_bytes byte_value bitmap_bytes padded body_of buffer_specs written_arrays buffers_of
row_written = (refl, refl, refl)

pub rows_written : IsWrittenAs sliced_nested_list
unfolding values_bytes byte_value bitmap_bytes padded body_of buffer_specs written_arrays buffers_of
rows_written = (refl, refl, refl)

pub map_written : IsWrittenAs sliced_map
unfolding values_bytes byte_value bitmap_bytes padded body_of buffer_specs written_arrays buffers_of
map_written = (refl, refl, refl)

pub sized_written : IsWrittenAs fixed_size_lists
unfolding values_bytes byte_value bitmap_bytes padded body_of buffer_specs written_arrays buffers_of
sized_written = (refl, refl, refl)

pub record_written : IsWrittenAs struct_column
unfolding values_bytes byte_value bitmap_bytes padded body_of buffer_specs written_arrays buffers_of
record_written = (refl, refl, refl)

pub sparse_written : IsWrittenAs sliced_sparse_union
unfolding values_bytes byte_value bitmap_bytes padded body_of buffer_specs written_arrays buffers_of
sparse_written = (refl, refl, refl)

pub none_written : IsWrittenAs empty_sparse_union
unfolding values_bytes byte_value bitmap_bytes padded body_of buffer_specs written_arrays buffers_of
none_written = (refl, refl, refl)

pub dense_written : IsWrittenAs sliced_dense_union
unfolding values_bytes byte_value bitmap_bytes padded body_of buffer_specs written_arrays buffers_of
dense_written = (refl, refl, refl)

pub keyed_are : IsDictionaryWrittenAs dictionary_words
unfolding bit bits_from decoded_natives values_bytes byte_value bitmap_bytes padded body_of buffer_specs written_arrays buffers_of first_counts buffer_slice first_buffer decoded_bits decoded_validity decoded_node decoded_buffer decoded_validity_buffer decoded_values zero_at_nulls decoded_keys_as first_values decoded_dictionary_values decoded_dictionary decoded_each decoded_columns
keyed_are = ((refl, refl, refl), refl, refl)

pub cut_are : IsDictionaryWrittenAs sliced_words
unfolding bit bits_from decoded_natives values_bytes byte_value bitmap_bytes padded body_of buffer_specs written_arrays buffers_of first_counts buffer_slice first_buffer decoded_bits decoded_validity decoded_node decoded_buffer decoded_validity_buffer decoded_values zero_at_nulls decoded_keys_as first_values decoded_dictionary_values decoded_dictionary decoded_each decoded_columns
cut_are = ((refl, refl, refl), refl, refl)

pub dated_are : IsDictionaryWrittenAs date_key_words
unfolding bit bits_from decoded_natives values_bytes byte_value bitmap_bytes padded body_of buffer_specs written_arrays buffers_of first_counts buffer_slice first_buffer decoded_bits decoded_validity decoded_node decoded_buffer decoded_validity_buffer decoded_values zero_at_nulls decoded_keys_as first_values decoded_dictionary_values decoded_dictionary decoded_each decoded_columns
dated_are = ((refl, refl, refl), refl, refl)

pub listed_are : IsDictionaryWrittenAs listed_words
unfolding bit bits_from decoded_natives values_bytes byte_value bitmap_bytes padded body_of buffer_specs written_arrays buffers_of first_counts buffer_slice first_buffer decoded_bits decoded_validity decoded_node decoded_buffer decoded_validity_buffer decoded_values are_offsets checked_offsets decoded_offsets decoded_variable_size_head zero_at_nulls decoded_keys_as first_values decoded_dictionary_values decoded_dictionary decoded_each decoded_columns
listed_are = ((refl, refl, refl), refl, refl)

-- the values of the other lists
values_there : (a b : Layout) → AreSameUpToValues (over_words a ∷ []) (over_words b ∷ []) → IsExtendedBy a b
values_there a b h =
    let there : b ≡ h.0.2.0 = ap (λ (c : Layout). child_of (child_of c)) h.0.1 ∙ ap child_of h.0.2.1 in
    subst (IsExtendedBy a) (sym there) h.0.2.2

turned_unlike : AreSameUpToValues (over_words words ∷ []) (over_words turned_words ∷ []) → ⊥
turned_unlike h =
    let grown : IsExtendedBy words turned_words = values_there words turned_words h in
    let same : (slots.utf8 (98 ∷ 99 ∷ []) ∷ slots.utf8 (97 ∷ []) ∷ []) ≡ (slots.utf8 (97 ∷ []) ∷ slots.utf8 (98 ∷ 99 ∷ []) ∷ grown.more) = grown.slots in
    cc

fewer_unlike : AreSameUpToValues (over_words more_words ∷ []) (over_words words ∷ []) → ⊥
fewer_unlike h =
    let grown : IsExtendedBy more_words words = values_there more_words words h in
    let same : (slots.utf8 (97 ∷ []) ∷ slots.utf8 (98 ∷ 99 ∷ []) ∷ []) ≡ (slots.utf8 (97 ∷ []) ∷ slots.utf8 (98 ∷ 99 ∷ []) ∷ slots.utf8 (100 ∷ []) ∷ grown.more) = grown.slots in
    cc

alike_over : (a b : Layout) → IsExtendedBy a b → AreSameUpToValues (over_words a ∷ []) (over_words b ∷ [])
alike_over a b grown = ((dictionary keyed_type (primitive Int8 types.int8 ((pos 1 ∷ []) ∷ (pos 1 ∷ []) ∷ (pos 0 ∷ []) ∷ []) None) b, refl, (b, refl, grown)), tt)

pub words_alike : ExtendedWordsMatch
words_alike =
    record {
      moved = alike_over words moved_words (record { logical = refl; more = []; slots = refl });
      more = alike_over words more_words (record { logical = refl; more = slots.utf8 (100 ∷ []) ∷ []; slots = refl });
      fewer = fewer_unlike;
      turned = turned_unlike;
    }
