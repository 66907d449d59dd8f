-- Columns as other writers leave them, byte by byte: offsets of arrays of length 0, validity, and bytes under nulls.
use Rattle.std.proofs.Common.{eqb, leb, arith}
use Rattle.std.proofs.lemmas.Bool.{lt-leb}
use Rattle.std.specs.Prelude.{◌≡◌, ℕ, ◌<◌, ◌≤◌, pos, Bool, true, false, List, [], ◌∷◌, ◌++◌, replicate, Some, None, Ok, Err, refl}
use Rattle.std.specs.Char.{encode_utf8}
use Rattle.std.specs.Str.{chars, is_utf8}
use Rattle.ipc_flatbuf.specs.declared.error.IpcReadError.TheVariants.{BufferTooShort, Utf8}
use Rattle.nest_memory.specs.Bits.{bit, bits_from}
use Rattle.nest_memory.specs.Rising.{are_offsets}
use Rattle.nest_memory.specs.TypeTree as types
use Rattle.nest_memory.specs.TypeTree.{no_fields, more_fields}
use Rattle.nest_model.specs.Layout.{Layout, binary, utf8, list as list_of, map as map_of, struct, no_layouts, more_layouts}
use Rattle.ipc_arrays.specs.FixedWidth.{decoded_natives}
use Rattle.ipc_arrays.specs.Decoding.{first_counts, buffer_slice, first_buffer, decoded_bits, decoded_validity, decoded_node, decoded_buffer, decoded_validity_buffer, decoded_values, decoded_primitive, checked_offsets, decoded_offsets, decoded_variable_size_head, decoded_data, are_utf8, decoded_binary_parts, decoded_binary, decoded_utf8}
use Rattle.ipc_arrays.specs.declared.cursor.NodeCounts.{NodeCounts}
use Rattle.ipc_arrays.specs.ReadExamples.{EncodedColumn, IsRead, IsRejected, node, at, word, item, small}

-- ---- arrays of length 0, whose offsets buffer is not read

-- the offset 7 past one byte of data
abbrev pub no_strings : EncodedColumn
no_strings = record {
  type = types.utf8;
  rows = 0;
  body = word 7 ++ 104 ∷ [];
  rest = record { nodes = node 0 0 ∷ []; buffers = at 0 0 ∷ at 0 4 ∷ at 4 1 ∷ []; dictionaries = [] };
}

abbrev pub no_strings_read : Layout
no_strings_read = utf8 false types.utf8 (0 ∷ []) [] None

pub no_strings_are : IsRead no_strings no_strings_read
unfolding first_counts buffer_slice first_buffer decoded_validity decoded_node decoded_buffer decoded_validity_buffer decoded_offsets decoded_data are_utf8 decoded_variable_size_head decoded_binary_parts decoded_utf8
no_strings_are = refl

-- three bytes, fewer than an offset of 64 bits has
abbrev pub no_bytes : EncodedColumn
no_bytes = record no_strings { type = types.large_binary; body = 255 ∷ 255 ∷ 255 ∷ 255 ∷ []; rest = record { nodes = node 0 0 ∷ []; buffers = at 0 0 ∷ at 0 3 ∷ at 3 1 ∷ []; dictionaries = [] } }

abbrev pub no_bytes_read : Layout
no_bytes_read = binary true types.large_binary (0 ∷ []) [] None

pub no_bytes_are : IsRead no_bytes no_bytes_read
unfolding first_counts buffer_slice first_buffer decoded_validity decoded_node decoded_buffer decoded_validity_buffer decoded_offsets decoded_data decoded_variable_size_head decoded_binary_parts decoded_binary
no_bytes_are = refl

-- the offset -1 before two entries, which the array keeps
abbrev pub no_maps : EncodedColumn
no_maps = record {
  type = types.map (item (types.struct (more_fields (item types.int8) (more_fields (item types.int8) no_fields)))) false;
  rows = 0;
  body = replicate 4 255 ++ 5 ∷ 6 ∷ [];
  rest = record { nodes = node 0 0 ∷ node 1 0 ∷ node 1 0 ∷ node 1 0 ∷ []; buffers = at 0 0 ∷ at 0 4 ∷ at 0 0 ∷ at 0 0 ∷ at 4 1 ∷ at 0 0 ∷ at 5 1 ∷ []; dictionaries = [] };
}

abbrev pub no_maps_read : Layout
no_maps_read =
    map_of no_maps.type (0 ∷ [])
    (struct (types.struct (more_fields (item types.int8) (more_fields (item types.int8) no_fields))) (more_layouts (small (pos 5 ∷ [])) (more_layouts (small (pos 6 ∷ [])) no_layouts)) None) None

pub no_maps_are : IsRead no_maps no_maps_read
unfolding decoded_natives first_counts buffer_slice first_buffer decoded_validity decoded_node decoded_buffer decoded_validity_buffer decoded_values decoded_primitive decoded_offsets decoded_variable_size_head
no_maps_are = refl

-- [[]]: the offset of the inner lists is 3, past their two items
abbrev pub inner_lists : EncodedColumn
inner_lists = record {
  type = types.list (item (types.list (item types.int8)));
  rows = 1;
  body = word 0 ++ word 0 ++ (word 3 ++ 5 ∷ 6 ∷ []);
  rest = record { nodes = node 1 0 ∷ node 0 0 ∷ node 2 0 ∷ []; buffers = at 0 0 ∷ at 0 8 ∷ at 0 0 ∷ at 8 4 ∷ at 0 0 ∷ at 12 2 ∷ []; dictionaries = [] };
}

abbrev pub inner_lists_read : Layout
inner_lists_read = list_of false inner_lists.type (0 ∷ 0 ∷ []) (list_of false (types.list (item types.int8)) (0 ∷ []) (small (pos 5 ∷ pos 6 ∷ [])) None) None

pub inner_lists_are : IsRead inner_lists inner_lists_read
unfolding decoded_natives first_counts buffer_slice first_buffer decoded_validity decoded_node decoded_buffer decoded_validity_buffer decoded_values decoded_primitive are_offsets checked_offsets decoded_offsets decoded_variable_size_head
inner_lists_are = refl

-- whatever is in the buffer, the offsets are the same
pub no_offsets_read : (large : Bool) (bytes : List ℕ) → decoded_offsets large 0 bytes ≡ Ok (0 ∷ [])
unfolding decoded_offsets
no_offsets_read large bytes = refl

-- ---- bytes under nulls

-- "hi", null over the bytes 255 and 254, "j"
abbrev pub null_bytes : EncodedColumn
null_bytes = record {
  type = types.utf8;
  rows = 3;
  body = 5 ∷ 0 ∷ 0 ∷ 0 ∷ word 0 ++ word 2 ++ (word 4 ++ (word 5 ++ 104 ∷ 105 ∷ 255 ∷ 254 ∷ 106 ∷ []));
  rest = record { nodes = node 3 1 ∷ []; buffers = at 0 1 ∷ at 4 16 ∷ at 20 5 ∷ []; dictionaries = [] };
}

-- the null is an empty string
abbrev pub null_bytes_read : Layout
null_bytes_read = utf8 false types.utf8 (0 ∷ 2 ∷ 2 ∷ 3 ∷ []) (104 ∷ 105 ∷ 106 ∷ []) (Some (true ∷ false ∷ true ∷ []))

pub null_bytes_are : IsRead null_bytes null_bytes_read
unfolding chars encode_utf8 is_utf8 bit bits_from decoded_natives first_counts buffer_slice first_buffer decoded_bits decoded_validity decoded_node decoded_buffer decoded_validity_buffer decoded_values are_offsets checked_offsets decoded_offsets decoded_data are_utf8 decoded_variable_size_head decoded_binary_parts decoded_utf8
null_bytes_are = refl

-- the same over the string "no", which is kept
abbrev pub null_text : EncodedColumn
null_text = record null_bytes { body = 5 ∷ 0 ∷ 0 ∷ 0 ∷ word 0 ++ word 2 ++ (word 4 ++ (word 5 ++ 104 ∷ 105 ∷ 110 ∷ 111 ∷ 106 ∷ [])) }

abbrev pub null_text_read : Layout
null_text_read = utf8 false types.utf8 (0 ∷ 2 ∷ 4 ∷ 5 ∷ []) (104 ∷ 105 ∷ 110 ∷ 111 ∷ 106 ∷ []) (Some (true ∷ false ∷ true ∷ []))

pub null_text_are : IsRead null_text null_text_read
unfolding chars encode_utf8 is_utf8 bit bits_from decoded_natives first_counts buffer_slice first_buffer decoded_bits decoded_validity decoded_node decoded_buffer decoded_validity_buffer decoded_values are_offsets checked_offsets decoded_offsets decoded_data are_utf8 decoded_variable_size_head decoded_binary_parts decoded_utf8
null_text_are = refl

-- the slot of the bytes 255 and 254 is valid, and the last one is null
abbrev pub valid_bytes : EncodedColumn
valid_bytes = record null_bytes { body = 3 ∷ 0 ∷ 0 ∷ 0 ∷ word 0 ++ word 2 ++ (word 4 ++ (word 5 ++ 104 ∷ 105 ∷ 255 ∷ 254 ∷ 106 ∷ [])) }

pub valid_bytes_are : IsRejected valid_bytes Utf8
unfolding chars encode_utf8 is_utf8 bit bits_from decoded_natives first_counts buffer_slice first_buffer decoded_bits decoded_validity decoded_node decoded_buffer decoded_validity_buffer decoded_values are_offsets checked_offsets decoded_offsets decoded_data are_utf8 decoded_variable_size_head decoded_binary_parts decoded_utf8
valid_bytes_are = refl

-- ---- a null count without validity

-- one null
abbrev pub no_validity : EncodedColumn
no_validity = record {
  type = types.int8;
  rows = 2;
  body = 6 ∷ 7 ∷ [];
  rest = record { nodes = node 2 1 ∷ []; buffers = at 0 0 ∷ at 0 2 ∷ []; dictionaries = [] };
}

pub no_validity_are : IsRejected no_validity BufferTooShort
unfolding first_counts buffer_slice first_buffer decoded_bits decoded_validity decoded_node decoded_buffer decoded_validity_buffer decoded_primitive
no_validity_are = refl

-- a validity buffer without bytes is that of no nulls
pub no_bits_short : (counts : NodeCounts) → 0 < counts.nulls → counts.nulls ≤ counts.slots → decoded_validity counts [] ≡ Err BufferTooShort
unfolding decoded_validity decoded_bits
no_bits_short counts some few =
    let none : eqb counts.nulls 0 ≡ false = grind arith in
    let short : leb counts.slots 0 ≡ false = lt-leb _ _ (omega (arith, some, few)) in
    rw (none, short) refl
