-- Nested and dictionary-encoded columns of other writers, byte by byte, and variants that are rejected.
use Rattle.std.specs.Prelude.{◌≡◌, ℕ, ℤ, pos, negsuc, true, false, List, [], ◌∷◌, ◌++◌, map, replicate, Option, Some, None, Ok, Err, refl}
use Rattle.ipc_flatbuf.specs.declared.error.IpcReadError.{IpcReadError}
use Rattle.ipc_flatbuf.specs.declared.error.IpcReadError.TheVariants.{TypeRange, ChildLength, NodeCount, BufferCount, BufferTooShort, OffsetPastChild, UnionType, UnionOffset, MissingDictionary, KeyRange}
use Rattle.ipc_flatbuf.specs.declared.batch.parts.FieldNode.{FieldNode}
use Rattle.ipc_flatbuf.specs.declared.batch.parts.BufferSpec.{BufferSpec}
use Rattle.nest_memory.specs.Bits.{bit, bits_from}
use Rattle.nest_memory.specs.Rising.{are_offsets}
use Rattle.nest_memory.specs.TypeTree as types
use Rattle.nest_memory.specs.TypeTree.{TypeTree, FieldTree, field, no_fields, more_fields}
use Rattle.nest_memory.specs.declared.datatypes.IntegerType.TheVariants as integers
use Rattle.nest_memory.specs.declared.datatypes.UnionMode.TheVariants.{Dense, Sparse}
use Rattle.nest_memory.specs.declared.datatypes.physical_type.PrimitiveType.TheVariants.{Int8, UInt16}
use Rattle.nest_model.specs.Layout.{Layout, null, boolean, primitive, utf8, fixed_size_list, list as list_of, map as map_of, struct, union, dictionary, no_layouts, more_layouts}
use Rattle.ipc_arrays.specs.DictionaryKeys.{zero_at_nulls}
use Rattle.ipc_arrays.specs.FixedWidth.{decoded_natives}
use Rattle.ipc_arrays.specs.Decoding.{Rest, first_counts, buffer_slice, first_buffer, decoded_bits, decoded_validity, decoded_node, decoded_buffer, decoded_validity_buffer, decoded_values, decoded_primitive, decoded_boolean, checked_offsets, decoded_offsets, decoded_variable_size_head, decoded_types, decoded_union_parts, decoded_keys_as, first_values, decoded_dictionary_values, decoded_dictionary, decoded_column}
use Rattle.ipc_arrays.specs.declared.cursor.ExpectedLength.TheVariants.{Rows}

-- a data type, a number of rows, and a body with its metadata
pub record EncodedColumn : Type 0 where
  pub type : TypeTree
  pub rows : ℕ
  pub body : List ℕ
  pub rest : Rest

abbrev pub IsRead : EncodedColumn → Layout → Type 0
IsRead w column = decoded_column w.type (Rows w.rows) w.body w.rest ≡ Ok (column, record { nodes = []; buffers = []; dictionaries = [] })

abbrev pub IsRejected : EncodedColumn → IpcReadError → Type 0
IsRejected w error = decoded_column w.type (Rows w.rows) w.body w.rest ≡ Err error

abbrev pub node : ℕ → ℕ → FieldNode
node slots nulls = record { length = pos slots; null_count = pos nulls }

abbrev pub at : ℕ → ℕ → BufferSpec
at place size = record { offset = pos place; length = pos size }

-- a number in 32 bits
abbrev pub word : ℕ → List ℕ
word n = n ∷ 0 ∷ 0 ∷ 0 ∷ []

abbrev pub item : TypeTree → FieldTree
item t = field [] t true []

abbrev pub small : List ℤ → Layout
small numbers = primitive Int8 types.int8 (map (λ z. z ∷ []) numbers) None

-- ---- lists

-- [8], [9, 10]: the items are before the offsets, which begin at 1 and leave the last item unused
abbrev pub lists : EncodedColumn
lists = record {
  type = types.list (item types.int8);
  rows = 2;
  body = 7 ∷ 8 ∷ 9 ∷ 10 ∷ 11 ∷ 0 ∷ 0 ∷ 0 ∷ word 1 ++ word 2 ++ word 4;
  rest = record { nodes = node 2 0 ∷ node 5 0 ∷ []; buffers = at 0 0 ∷ at 8 12 ∷ at 0 0 ∷ at 0 5 ∷ []; dictionaries = [] };
}

abbrev pub lists_read : Layout
lists_read = list_of false lists.type (1 ∷ 2 ∷ 4 ∷ []) (small (pos 7 ∷ pos 8 ∷ pos 9 ∷ pos 10 ∷ pos 11 ∷ [])) None

pub lists_are : IsRead lists lists_read
unfolding decoded_natives first_counts buffer_slice first_buffer decoded_validity decoded_node decoded_buffer decoded_validity_buffer decoded_values decoded_primitive are_offsets checked_offsets decoded_offsets decoded_variable_size_head
lists_are = refl

-- the same with one item too few
abbrev pub short_lists : EncodedColumn
short_lists = record lists { rest = record { nodes = node 2 0 ∷ node 3 0 ∷ []; buffers = at 0 0 ∷ at 8 12 ∷ at 0 0 ∷ at 0 5 ∷ []; dictionaries = [] } }

pub short_lists_are : IsRejected short_lists OffsetPastChild
unfolding decoded_natives first_counts buffer_slice first_buffer decoded_validity decoded_node decoded_buffer decoded_validity_buffer decoded_values decoded_primitive are_offsets checked_offsets decoded_offsets decoded_variable_size_head
short_lists_are = refl

-- no field node for the items
abbrev pub bare_lists : EncodedColumn
bare_lists = record lists { rest = record { nodes = node 2 0 ∷ []; buffers = at 0 0 ∷ at 8 12 ∷ at 0 0 ∷ at 0 5 ∷ []; dictionaries = [] } }

pub bare_lists_are : IsRejected bare_lists NodeCount
unfolding decoded_natives first_counts buffer_slice first_buffer decoded_validity decoded_node decoded_buffer decoded_validity_buffer decoded_values decoded_primitive are_offsets checked_offsets decoded_offsets decoded_variable_size_head
bare_lists_are = refl

-- no lists: an empty offsets buffer, though there are items
abbrev pub no_lists : EncodedColumn
no_lists = record {
  type = types.large_list (item types.int8);
  rows = 0;
  body = 5 ∷ 6 ∷ [];
  rest = record { nodes = node 0 0 ∷ node 2 0 ∷ []; buffers = at 0 0 ∷ at 0 0 ∷ at 0 0 ∷ at 0 2 ∷ []; dictionaries = [] };
}

abbrev pub no_lists_read : Layout
no_lists_read = list_of true no_lists.type (0 ∷ []) (small (pos 5 ∷ pos 6 ∷ [])) None

pub no_lists_are : IsRead no_lists no_lists_read
unfolding decoded_natives first_counts buffer_slice first_buffer decoded_validity decoded_node decoded_buffer decoded_validity_buffer decoded_values decoded_primitive are_offsets checked_offsets decoded_offsets decoded_variable_size_head
no_lists_are = refl

-- null, [-1], with 64-bit offsets
abbrev pub large_lists : EncodedColumn
large_lists = record {
  type = types.large_list (item types.int8);
  rows = 2;
  body = 2 ∷ 255 ∷ replicate 6 0 ++ (replicate 8 0 ++ (replicate 8 0 ++ 1 ∷ replicate 7 0));
  rest = record { nodes = node 2 1 ∷ node 1 0 ∷ []; buffers = at 0 1 ∷ at 8 24 ∷ at 0 0 ∷ at 1 1 ∷ []; dictionaries = [] };
}

abbrev pub large_lists_read : Layout
large_lists_read = list_of true large_lists.type (0 ∷ 0 ∷ 1 ∷ []) (small (negsuc 0 ∷ [])) (Some (false ∷ true ∷ []))

pub large_lists_are : IsRead large_lists large_lists_read
unfolding bit bits_from decoded_natives first_counts buffer_slice first_buffer decoded_bits decoded_validity decoded_node decoded_buffer decoded_validity_buffer decoded_values decoded_primitive are_offsets checked_offsets decoded_offsets decoded_variable_size_head
large_lists_are = refl

-- [1, 2], null, over four items
abbrev pub sized_list : EncodedColumn
sized_list = record {
  type = types.fixed_size_list (item types.int8) 2;
  rows = 2;
  body = 1 ∷ 2 ∷ 3 ∷ 4 ∷ [];
  rest = record { nodes = node 2 1 ∷ node 4 0 ∷ []; buffers = at 0 1 ∷ at 0 0 ∷ at 0 4 ∷ []; dictionaries = [] };
}

abbrev pub sized_list_read : Layout
sized_list_read = fixed_size_list sized_list.type (small (pos 1 ∷ pos 2 ∷ pos 3 ∷ pos 4 ∷ [])) (Some (true ∷ false ∷ []))

pub sized_list_are : IsRead sized_list sized_list_read
unfolding bit bits_from decoded_natives first_counts buffer_slice first_buffer decoded_bits decoded_validity decoded_node decoded_buffer decoded_validity_buffer decoded_values decoded_primitive
sized_list_are = refl

-- one item too many
abbrev pub long_sized_list : EncodedColumn
long_sized_list = record sized_list { rest = record { nodes = node 2 1 ∷ node 5 0 ∷ []; buffers = at 0 1 ∷ at 0 0 ∷ at 0 4 ∷ []; dictionaries = [] } }

pub long_sized_list_are : IsRejected long_sized_list ChildLength
unfolding bit bits_from decoded_natives first_counts buffer_slice first_buffer decoded_bits decoded_validity decoded_node decoded_buffer decoded_validity_buffer decoded_values decoded_primitive
long_sized_list_are = refl

-- lists of size 0
abbrev pub no_sized_list : EncodedColumn
no_sized_list = record sized_list { type = types.fixed_size_list (item types.int8) 0 }

pub no_sized_list_are : IsRejected no_sized_list TypeRange
unfolding first_counts decoded_node
no_sized_list_are = refl

-- ---- structs and maps

-- (false, 6), (true, 7)
abbrev pub structs : EncodedColumn
structs = record {
  type = types.struct (more_fields (item types.boolean) (more_fields (item types.int8) no_fields));
  rows = 2;
  body = 2 ∷ 6 ∷ 7 ∷ [];
  rest = record { nodes = node 2 0 ∷ node 2 0 ∷ node 2 0 ∷ []; buffers = at 0 0 ∷ at 0 0 ∷ at 0 1 ∷ at 0 0 ∷ at 1 2 ∷ []; dictionaries = [] };
}

abbrev pub structs_read : Layout
structs_read = struct structs.type (more_layouts (boolean types.boolean (false ∷ true ∷ []) None) (more_layouts (small (pos 6 ∷ pos 7 ∷ [])) no_layouts)) None

pub structs_are : IsRead structs structs_read
unfolding bit bits_from decoded_natives first_counts buffer_slice first_buffer decoded_bits decoded_validity decoded_node decoded_buffer decoded_validity_buffer decoded_values decoded_primitive decoded_boolean
structs_are = refl

-- the first child is too long, or the second
abbrev pub first_long : EncodedColumn
first_long = record structs { rest = record { nodes = node 2 0 ∷ node 3 0 ∷ node 2 0 ∷ []; buffers = at 0 0 ∷ at 0 0 ∷ at 0 1 ∷ at 0 0 ∷ at 1 2 ∷ []; dictionaries = [] } }

abbrev pub second_long : EncodedColumn
second_long = record structs { rest = record { nodes = node 2 0 ∷ node 2 0 ∷ node 3 0 ∷ []; buffers = at 0 0 ∷ at 0 0 ∷ at 0 1 ∷ at 0 0 ∷ at 1 2 ∷ []; dictionaries = [] } }

pub first_long_is : IsRejected first_long ChildLength
unfolding bit bits_from decoded_natives first_counts buffer_slice first_buffer decoded_bits decoded_validity decoded_node decoded_buffer decoded_validity_buffer decoded_values decoded_primitive decoded_boolean
first_long_is = refl

pub second_long_is : IsRejected second_long ChildLength
unfolding bit bits_from decoded_natives first_counts buffer_slice first_buffer decoded_bits decoded_validity decoded_node decoded_buffer decoded_validity_buffer decoded_values decoded_primitive decoded_boolean
second_long_is = refl

-- a struct without fields
abbrev pub no_structs : EncodedColumn
no_structs = record structs { type = types.struct no_fields }

pub no_structs_are : IsRejected no_structs TypeRange
unfolding first_counts decoded_node
no_structs_are = refl

-- a map from false to 6 and from true to 7, and an empty map
abbrev pub maps : EncodedColumn
maps = record {
  type = types.map (item structs.type) false;
  rows = 2;
  body = 2 ∷ 6 ∷ 7 ∷ 0 ∷ word 0 ++ word 2 ++ word 2;
  rest = record { nodes = node 2 0 ∷ node 2 0 ∷ node 2 0 ∷ node 2 0 ∷ []; buffers = at 0 0 ∷ at 4 12 ∷ at 0 0 ∷ at 0 0 ∷ at 0 1 ∷ at 0 0 ∷ at 1 2 ∷ []; dictionaries = [] };
}

abbrev pub maps_read : Layout
maps_read = map_of maps.type (0 ∷ 2 ∷ 2 ∷ []) structs_read None

pub maps_are : IsRead maps maps_read
unfolding bit bits_from decoded_natives first_counts buffer_slice first_buffer decoded_bits decoded_validity decoded_node decoded_buffer decoded_validity_buffer decoded_values decoded_primitive decoded_boolean are_offsets checked_offsets decoded_offsets decoded_variable_size_head
maps_are = refl

-- one entry too few
abbrev pub short_maps : EncodedColumn
short_maps = record maps { rest = record { nodes = node 2 0 ∷ node 1 0 ∷ node 1 0 ∷ node 1 0 ∷ []; buffers = at 0 0 ∷ at 4 12 ∷ at 0 0 ∷ at 0 0 ∷ at 0 1 ∷ at 0 0 ∷ at 1 2 ∷ []; dictionaries = [] } }

pub short_maps_are : IsRejected short_maps OffsetPastChild
unfolding bit bits_from decoded_natives first_counts buffer_slice first_buffer decoded_bits decoded_validity decoded_node decoded_buffer decoded_validity_buffer decoded_values decoded_primitive decoded_boolean are_offsets checked_offsets decoded_offsets decoded_variable_size_head
short_maps_are = refl

-- entries that are not a key and a value
abbrev pub no_maps : EncodedColumn
no_maps = record maps { type = types.map (item types.int8) false }

pub no_maps_are : IsRejected no_maps TypeRange
unfolding first_counts decoded_node
no_maps_are = refl

-- ---- unions

-- 6, true, 7: the ids of the fields are 5 and 2, so type 2 is the second field. The first child is longer than the union. The null count
-- of the field node is not used.
abbrev pub sparse_union : EncodedColumn
sparse_union = record {
  type = types.union (more_fields (item types.boolean) (more_fields (item types.int8) no_fields)) (Some (pos 5 ∷ pos 2 ∷ [])) Sparse;
  rows = 3;
  body = 2 ∷ 5 ∷ 2 ∷ 2 ∷ 6 ∷ 0 ∷ 7 ∷ [];
  rest = record { nodes = node 3 2 ∷ node 4 0 ∷ node 3 0 ∷ []; buffers = at 0 3 ∷ at 0 0 ∷ at 3 1 ∷ at 0 0 ∷ at 4 3 ∷ []; dictionaries = [] };
}

abbrev pub sparse_union_read : Layout
sparse_union_read = union sparse_union.type (pos 2 ∷ pos 5 ∷ pos 2 ∷ []) (more_layouts (boolean types.boolean (false ∷ true ∷ false ∷ false ∷ []) None) (more_layouts (small (pos 6 ∷ pos 0 ∷ pos 7 ∷ [])) no_layouts)) None 0

pub sparse_union_are : IsRead sparse_union sparse_union_read
unfolding bit bits_from decoded_natives first_counts buffer_slice first_buffer decoded_bits decoded_validity decoded_node decoded_buffer decoded_validity_buffer decoded_values decoded_primitive decoded_boolean decoded_types decoded_union_parts
sparse_union_are = refl

-- a child that is too short
abbrev pub short_sparse_union : EncodedColumn
short_sparse_union = record sparse_union { rest = record { nodes = node 3 2 ∷ node 4 0 ∷ node 2 0 ∷ []; buffers = at 0 3 ∷ at 0 0 ∷ at 3 1 ∷ at 0 0 ∷ at 4 3 ∷ []; dictionaries = [] } }

pub short_sparse_union_are : IsRejected short_sparse_union ChildLength
unfolding bit bits_from decoded_natives first_counts buffer_slice first_buffer decoded_bits decoded_validity decoded_node decoded_buffer decoded_validity_buffer decoded_values decoded_primitive decoded_boolean decoded_types decoded_union_parts
short_sparse_union_are = refl

-- the type 1 is the index of a field, but not an id
abbrev pub odd_sparse_union : EncodedColumn
odd_sparse_union = record sparse_union { body = 2 ∷ 1 ∷ 2 ∷ 2 ∷ 6 ∷ 0 ∷ 7 ∷ [] }

pub odd_sparse_union_are : IsRejected odd_sparse_union UnionType
unfolding bit bits_from decoded_natives first_counts buffer_slice first_buffer decoded_bits decoded_validity decoded_node decoded_buffer decoded_validity_buffer decoded_values decoded_primitive decoded_boolean decoded_types decoded_union_parts
odd_sparse_union_are = refl

-- one id too few
abbrev pub unnamed_sparse_union : EncodedColumn
unnamed_sparse_union = record sparse_union { type = types.union (more_fields (item types.boolean) (more_fields (item types.int8) no_fields)) (Some (pos 5 ∷ [])) Sparse }

pub unnamed_sparse_union_are : IsRejected unnamed_sparse_union TypeRange
unfolding first_counts decoded_node
unnamed_sparse_union_are = refl

-- a negative id
abbrev pub negative_sparse_union : EncodedColumn
negative_sparse_union = record sparse_union { type = types.union (more_fields (item types.boolean) (more_fields (item types.int8) no_fields)) (Some (pos 5 ∷ negsuc 0 ∷ [])) Sparse }

pub negative_sparse_union_are : IsRejected negative_sparse_union TypeRange
unfolding first_counts decoded_node
negative_sparse_union_are = refl

-- 7, true, 6, with offsets that do not increase
abbrev pub dense_union : EncodedColumn
dense_union = record {
  type = types.union (more_fields (item types.boolean) (more_fields (item types.int8) no_fields)) None Dense;
  rows = 3;
  body = 1 ∷ 0 ∷ 1 ∷ 1 ∷ word 1 ++ word 0 ++ (word 0 ++ 6 ∷ 7 ∷ []);
  rest = record { nodes = node 3 0 ∷ node 1 0 ∷ node 2 0 ∷ []; buffers = at 0 3 ∷ at 4 12 ∷ at 0 0 ∷ at 3 1 ∷ at 0 0 ∷ at 16 2 ∷ []; dictionaries = [] };
}

abbrev pub dense_union_read : Layout
dense_union_read = union dense_union.type (pos 1 ∷ pos 0 ∷ pos 1 ∷ []) (more_layouts (boolean types.boolean (true ∷ []) None) (more_layouts (small (pos 6 ∷ pos 7 ∷ [])) no_layouts)) (Some (pos 1 ∷ pos 0 ∷ pos 0 ∷ [])) 0

pub dense_union_are : IsRead dense_union dense_union_read
unfolding bit bits_from decoded_natives first_counts buffer_slice first_buffer decoded_bits decoded_validity decoded_node decoded_buffer decoded_validity_buffer decoded_values decoded_primitive decoded_boolean decoded_types decoded_union_parts
dense_union_are = refl

-- the first offset is the length of its child
abbrev pub past_dense_union : EncodedColumn
past_dense_union = record dense_union { body = 1 ∷ 0 ∷ 1 ∷ 1 ∷ word 2 ++ word 0 ++ (word 0 ++ 6 ∷ 7 ∷ []) }

pub past_dense_union_are : IsRejected past_dense_union UnionOffset
unfolding bit bits_from decoded_natives first_counts buffer_slice first_buffer decoded_bits decoded_validity decoded_node decoded_buffer decoded_validity_buffer decoded_values decoded_primitive decoded_boolean decoded_types decoded_union_parts
past_dense_union_are = refl

-- the second offset is within the other child only
abbrev pub other_dense_union : EncodedColumn
other_dense_union = record dense_union { body = 1 ∷ 0 ∷ 1 ∷ 1 ∷ word 1 ++ word 1 ++ (word 0 ++ 6 ∷ 7 ∷ []) }

pub other_dense_union_are : IsRejected other_dense_union UnionOffset
unfolding bit bits_from decoded_natives first_counts buffer_slice first_buffer decoded_bits decoded_validity decoded_node decoded_buffer decoded_validity_buffer decoded_values decoded_primitive decoded_boolean decoded_types decoded_union_parts
other_dense_union_are = refl

-- an offset of -1
abbrev pub negative_dense_union : EncodedColumn
negative_dense_union = record dense_union { body = 1 ∷ 0 ∷ 1 ∷ 1 ∷ replicate 4 255 ++ word 0 ++ (word 0 ++ 6 ∷ 7 ∷ []) }

pub negative_dense_union_are : IsRejected negative_dense_union UnionOffset
unfolding bit bits_from decoded_natives first_counts buffer_slice first_buffer decoded_bits decoded_validity decoded_node decoded_buffer decoded_validity_buffer decoded_values decoded_primitive decoded_boolean decoded_types decoded_union_parts
negative_dense_union_are = refl

-- the type 2 is that of neither field
abbrev pub odd_dense_union : EncodedColumn
odd_dense_union = record dense_union { body = 2 ∷ 0 ∷ 1 ∷ 1 ∷ word 1 ++ word 0 ++ (word 0 ++ 6 ∷ 7 ∷ []) }

pub odd_dense_union_are : IsRejected odd_dense_union UnionType
unfolding bit bits_from decoded_natives first_counts buffer_slice first_buffer decoded_bits decoded_validity decoded_node decoded_buffer decoded_validity_buffer decoded_values decoded_primitive decoded_boolean decoded_types decoded_union_parts
odd_dense_union_are = refl

-- no offsets buffer
abbrev pub bare_dense_union : EncodedColumn
bare_dense_union = record dense_union { rest = record { nodes = node 3 0 ∷ node 1 0 ∷ node 2 0 ∷ []; buffers = at 0 3 ∷ []; dictionaries = [] } }

pub bare_dense_union_are : IsRejected bare_dense_union BufferCount
unfolding bit bits_from decoded_natives first_counts buffer_slice first_buffer decoded_bits decoded_validity decoded_node decoded_buffer decoded_validity_buffer decoded_values decoded_primitive decoded_boolean decoded_types decoded_union_parts
bare_dense_union_are = refl

-- ---- dictionaries

-- "hi", "j"
abbrev pub words : Layout
words = utf8 false types.utf8 (0 ∷ 2 ∷ 3 ∷ []) (104 ∷ 105 ∷ 106 ∷ []) None

-- "j", null, "hi": the key of the null slot is 9
abbrev pub dictionary_column : EncodedColumn
dictionary_column = record {
  type = types.dictionary integers.Int8 types.utf8 false;
  rows = 3;
  body = 5 ∷ 1 ∷ 9 ∷ 0 ∷ [];
  rest = record { nodes = node 3 1 ∷ []; buffers = at 0 1 ∷ at 1 3 ∷ []; dictionaries = Some words ∷ [] };
}

abbrev pub dictionary_read : Layout
dictionary_read = dictionary dictionary_column.type (primitive Int8 types.int8 ((pos 1 ∷ []) ∷ (pos 0 ∷ []) ∷ (pos 0 ∷ []) ∷ []) (Some (true ∷ false ∷ true ∷ []))) words

pub dictionary_are : IsRead dictionary_column dictionary_read
unfolding bit bits_from decoded_natives first_counts buffer_slice first_buffer decoded_bits decoded_validity decoded_node decoded_buffer decoded_validity_buffer decoded_values zero_at_nulls decoded_keys_as first_values decoded_dictionary_values decoded_dictionary
dictionary_are = refl

-- keys of `UInt16`, over values of an extension of UTF-8
abbrev pub wide_dictionary : EncodedColumn
wide_dictionary = record {
  type = types.dictionary integers.UInt16 (types.extension (119 ∷ []) types.utf8 None) true;
  rows = 2;
  body = 1 ∷ 0 ∷ 0 ∷ 0 ∷ [];
  rest = record { nodes = node 2 0 ∷ []; buffers = at 0 0 ∷ at 0 4 ∷ []; dictionaries = Some words ∷ [] };
}

abbrev pub wide_dictionary_read : Layout
wide_dictionary_read = dictionary wide_dictionary.type (primitive UInt16 types.uint16 ((pos 1 ∷ []) ∷ (pos 0 ∷ []) ∷ []) None) words

pub wide_dictionary_are : IsRead wide_dictionary wide_dictionary_read
unfolding decoded_natives first_counts buffer_slice first_buffer decoded_validity decoded_node decoded_buffer decoded_validity_buffer decoded_values zero_at_nulls decoded_keys_as first_values decoded_dictionary_values decoded_dictionary
wide_dictionary_are = refl

-- two nulls over no values
abbrev pub null_dictionary : EncodedColumn
null_dictionary = record {
  type = types.dictionary integers.Int8 types.null false;
  rows = 2;
  body = 0 ∷ 7 ∷ 255 ∷ [];
  rest = record { nodes = node 2 2 ∷ []; buffers = at 0 1 ∷ at 1 2 ∷ []; dictionaries = Some (null types.null 0) ∷ [] };
}

abbrev pub null_dictionary_read : Layout
null_dictionary_read = dictionary null_dictionary.type (primitive Int8 types.int8 ((pos 0 ∷ []) ∷ (pos 0 ∷ []) ∷ []) (Some (false ∷ false ∷ []))) (null types.null 0)

pub null_dictionary_are : IsRead null_dictionary null_dictionary_read
unfolding bit bits_from decoded_natives first_counts buffer_slice first_buffer decoded_bits decoded_validity decoded_node decoded_buffer decoded_validity_buffer decoded_values zero_at_nulls decoded_keys_as first_values decoded_dictionary_values decoded_dictionary
null_dictionary_are = refl

-- a struct of two dictionary-encoded arrays, each with its own values
abbrev pub both_dictionary : EncodedColumn
both_dictionary = record {
  type = types.struct (more_fields (item (types.dictionary integers.Int8 types.utf8 false)) (more_fields (item (types.dictionary integers.Int8 types.null false)) no_fields));
  rows = 1;
  body = 1 ∷ 0 ∷ [];
  rest = record { nodes = node 1 0 ∷ node 1 0 ∷ node 1 0 ∷ []; buffers = at 0 0 ∷ at 0 0 ∷ at 0 1 ∷ at 0 0 ∷ at 1 1 ∷ []; dictionaries = Some words ∷ Some (null types.null 1) ∷ [] };
}

abbrev pub both_dictionary_read : Layout
both_dictionary_read =
    struct both_dictionary.type
    (more_layouts (dictionary (types.dictionary integers.Int8 types.utf8 false) (small (pos 1 ∷ [])) words)
    (more_layouts (dictionary (types.dictionary integers.Int8 types.null false) (small (pos 0 ∷ [])) (null types.null 1)) no_layouts)) None

pub both_dictionary_are : IsRead both_dictionary both_dictionary_read
unfolding decoded_natives first_counts buffer_slice first_buffer decoded_validity decoded_node decoded_buffer decoded_validity_buffer decoded_values zero_at_nulls decoded_keys_as first_values decoded_dictionary_values decoded_dictionary
both_dictionary_are = refl

-- a key that is out of range, and one that is negative
abbrev pub past_dictionary : EncodedColumn
past_dictionary = record dictionary_column { body = 5 ∷ 2 ∷ 9 ∷ 0 ∷ [] }

abbrev pub negative_dictionary : EncodedColumn
negative_dictionary = record dictionary_column { body = 5 ∷ 255 ∷ 9 ∷ 0 ∷ [] }

pub past_dictionary_are : IsRejected past_dictionary KeyRange
unfolding bit bits_from decoded_natives first_counts buffer_slice first_buffer decoded_bits decoded_validity decoded_node decoded_buffer decoded_validity_buffer decoded_values zero_at_nulls decoded_keys_as first_values decoded_dictionary_values decoded_dictionary
past_dictionary_are = refl

pub negative_dictionary_are : IsRejected negative_dictionary KeyRange
unfolding bit bits_from decoded_natives first_counts buffer_slice first_buffer decoded_bits decoded_validity decoded_node decoded_buffer decoded_validity_buffer decoded_values zero_at_nulls decoded_keys_as first_values decoded_dictionary_values decoded_dictionary
negative_dictionary_are = refl

-- values that are missing, a list of values that is empty, and values of another type, with a key out of range
abbrev with_dictionaries : List (Option Layout) → EncodedColumn
with_dictionaries others = record dictionary_column { rest = record { nodes = node 3 1 ∷ []; buffers = at 0 1 ∷ at 1 3 ∷ []; dictionaries = others } }

abbrev pub missing_dictionary : EncodedColumn
missing_dictionary = with_dictionaries (None ∷ Some words ∷ [])

abbrev pub bare_dictionary : EncodedColumn
bare_dictionary = with_dictionaries []

abbrev pub unlike_dictionary : EncodedColumn
unlike_dictionary = with_dictionaries (Some (small (pos 1 ∷ [])) ∷ [])

pub missing_dictionary_are : IsRejected missing_dictionary MissingDictionary
unfolding bit bits_from decoded_natives first_counts buffer_slice first_buffer decoded_bits decoded_validity decoded_node decoded_buffer decoded_validity_buffer decoded_values zero_at_nulls decoded_keys_as first_values decoded_dictionary_values decoded_dictionary
missing_dictionary_are = refl

pub bare_dictionary_are : IsRejected bare_dictionary MissingDictionary
unfolding bit bits_from decoded_natives first_counts buffer_slice first_buffer decoded_bits decoded_validity decoded_node decoded_buffer decoded_validity_buffer decoded_values zero_at_nulls decoded_keys_as first_values decoded_dictionary_values decoded_dictionary
bare_dictionary_are = refl

pub unlike_dictionary_are : IsRejected unlike_dictionary MissingDictionary
unfolding bit bits_from decoded_natives first_counts buffer_slice first_buffer decoded_bits decoded_validity decoded_node decoded_buffer decoded_validity_buffer decoded_values zero_at_nulls decoded_keys_as first_values decoded_dictionary_values decoded_dictionary
unlike_dictionary_are = refl

-- one byte of keys too few, with values that are missing
abbrev pub short_dictionary : EncodedColumn
short_dictionary = record dictionary_column { rest = record { nodes = node 3 1 ∷ []; buffers = at 0 1 ∷ at 1 2 ∷ []; dictionaries = None ∷ [] } }

pub short_dictionary_are : IsRejected short_dictionary BufferTooShort
unfolding bit bits_from decoded_natives first_counts buffer_slice first_buffer decoded_bits decoded_validity decoded_node decoded_buffer decoded_validity_buffer decoded_values zero_at_nulls decoded_keys_as first_values decoded_dictionary_values decoded_dictionary
short_dictionary_are = refl
