-- A column of another writer, byte by byte: 7 and null, in 32 bits. It is written as the same bytes. And a column of each other flat type.
use Rattle.std.specs.Prelude.{◌≡◌, ℕ, pos, negsuc, true, false, List, [], ◌∷◌, ◌++◌, map, replicate, Some, None, Ok, refl}
use Rattle.std.specs.Str.{is_utf8}
use Rattle.std.proofs.Common.{rules, arith}
use Rattle.std.proofs.lemmas.Str.{IsUtf8-from_ascii, is_utf8-from_IsUtf8}
use Rattle.nest_memory.specs.Bits.{bit, bits_from}
use Rattle.nest_memory.specs.Rising.{are_offsets}
use Rattle.nest_memory.specs.TypeTree as types
use Rattle.nest_memory.specs.TypeTree.{TypeTree}
use Rattle.nest_memory.specs.declared.datatypes.IntervalUnit.TheVariants.{DayTime, MonthDayNano as Months}
use Rattle.nest_memory.specs.declared.datatypes.physical_type.PrimitiveType.TheVariants.{Int32, Int128, Int256, DaysMs, MonthDayNano}
use Rattle.nest_model.specs.Layout.{Layout, null, boolean, primitive, binary, utf8, fixed_size_binary}
use Rattle.ipc_flatbuf.specs.declared.batch.parts.BufferSpec.{BufferSpec}
use Rattle.ipc_arrays.specs.FixedWidth.{decoded_natives, values_bytes}
use Rattle.ipc_arrays.specs.Bitmaps.{byte_value, bitmap_bytes}
use Rattle.ipc_arrays.specs.BodyBuffers.{padded, body_of, buffer_specs}
use Rattle.ipc_arrays.specs.Encoding.{field_node_of, written_arrays, buffers_of, columns_body}
use Rattle.ipc_arrays.specs.declared.cursor.ExpectedLength.TheVariants.{Rows}
use Rattle.ipc_arrays.specs.Decoding.{Rest, first_counts, buffer_slice, first_buffer, decoded_bits, decoded_validity, decoded_node, decoded_buffer, decoded_validity_buffer, decoded_values, decoded_primitive, decoded_bytes, checked_offsets, decoded_offsets, decoded_data, are_utf8, decoded_boolean, decoded_fixed_size_binary, decoded_variable_size_head, decoded_binary_parts, decoded_binary, decoded_utf8, decoded_column}

abbrev pub worked_type : TypeTree
worked_type = types.int32

abbrev pub worked_body : List ℕ
worked_body = 1 ∷ 0 ∷ 0 ∷ 0 ∷ 0 ∷ 0 ∷ 0 ∷ 0 ∷ 7 ∷ 0 ∷ 0 ∷ 0 ∷ 0 ∷ 0 ∷ 0 ∷ 0 ∷ []

abbrev pub worked_rest : Rest
worked_rest = record {
  nodes = record { length = pos 2; null_count = pos 1 } ∷ [];
  buffers = record { offset = pos 0; length = pos 1 } ∷ record { offset = pos 8; length = pos 8 } ∷ [];
  dictionaries = [];
}

abbrev pub worked_column : Layout
worked_column = primitive Int32 worked_type ((pos 7 ∷ []) ∷ (pos 0 ∷ []) ∷ []) (Some (true ∷ false ∷ []))

abbrev pub nothing : Rest
nothing = record { nodes = []; buffers = []; dictionaries = [] }

pub worked_read : decoded_column worked_type (Rows 2) worked_body worked_rest ≡ Ok (worked_column, nothing)
unfolding bit bits_from decoded_natives first_counts buffer_slice first_buffer decoded_bits decoded_validity decoded_node decoded_buffer decoded_validity_buffer decoded_values decoded_primitive
worked_read = refl

pub worked_written : columns_body (worked_column ∷ []) ≡ worked_body
unfolding values_bytes byte_value bitmap_bytes padded body_of written_arrays buffers_of
worked_written = refl

pub worked_nodes : map field_node_of (written_arrays (worked_column ∷ [])) ≡ worked_rest.nodes
unfolding written_arrays
worked_nodes = refl

pub worked_buffers : buffer_specs 0 (buffers_of (written_arrays (worked_column ∷ []))) ≡ worked_rest.buffers
unfolding values_bytes byte_value bitmap_bytes padded buffer_specs written_arrays buffers_of
worked_buffers = refl

-- ---- a column of each flat type, read and written

-- a data type, a number of rows, a body with its metadata, and the column that they encode
pub record Worked : Type 0 where
  pub type : TypeTree
  pub rows : ℕ
  pub body : List ℕ
  pub rest : Rest
  pub column : Layout

-- the body decodes to the column, and nothing remains
abbrev pub DecodesAsStated : Worked → Type 0
DecodesAsStated w = decoded_column w.type (Rows w.rows) w.body w.rest ≡ Ok (w.column, nothing)

-- the column is written as that field node, those buffers and that body
abbrev pub EncodesAsStated : Worked → Type 0
EncodesAsStated w = (map field_node_of (written_arrays (w.column ∷ [])) ≡ w.rest.nodes) × (buffer_specs 0 (buffers_of (written_arrays (w.column ∷ []))) ≡ w.rest.buffers) × (columns_body (w.column ∷ []) ≡ w.body)

abbrev at : ℕ → ℕ → BufferSpec
at place size = record { offset = pos place; length = pos size }

abbrev zeros : ℕ → List ℕ → List ℕ
zeros n after = replicate n 0 ++ after

-- three nulls
abbrev pub null_column : Worked
null_column = record {
  type = types.null;
  rows = 3;
  body = [];
  rest = record { nodes = record { length = pos 3; null_count = pos 3 } ∷ []; buffers = []; dictionaries = [] };
  column = null types.null 3;
}

-- true, null, true, false, and six more: least significant bit first
abbrev pub boolean_column : Worked
boolean_column = record {
  type = types.boolean;
  rows = 10;
  body = 253 ∷ 3 ∷ zeros 6 (5 ∷ 2 ∷ zeros 6 []);
  rest = record { nodes = record { length = pos 10; null_count = pos 1 } ∷ []; buffers = at 0 2 ∷ at 8 2 ∷ []; dictionaries = [] };
  column = boolean types.boolean (true ∷ false ∷ true ∷ false ∷ false ∷ false ∷ false ∷ false ∷ false ∷ true ∷ []) (Some (true ∷ false ∷ true ∷ true ∷ true ∷ true ∷ true ∷ true ∷ true ∷ true ∷ []));
}

-- a value of 128 bits, -2
abbrev pub int128_column : Worked
int128_column = record {
  type = types.decimal 9 2;
  rows = 1;
  body = 254 ∷ replicate 15 255;
  rest = record { nodes = record { length = pos 1; null_count = pos 0 } ∷ []; buffers = at 0 0 ∷ at 0 16 ∷ []; dictionaries = [] };
  column = primitive Int128 (types.decimal 9 2) ((negsuc 1 ∷ []) ∷ []) None;
}

-- a value of 256 bits, 2^129 + 3: the low 128 bits first
abbrev pub int256_column : Worked
int256_column = record {
  type = types.decimal256 9 2;
  rows = 1;
  body = 3 ∷ zeros 15 (2 ∷ zeros 15 []);
  rest = record { nodes = record { length = pos 1; null_count = pos 0 } ∷ []; buffers = at 0 0 ∷ at 0 32 ∷ []; dictionaries = [] };
  column = primitive Int256 (types.decimal256 9 2) ((pos 2 ∷ pos 3 ∷ []) ∷ []) None;
}

-- 1 day and 2 milliseconds
abbrev pub days_ms_column : Worked
days_ms_column = record {
  type = types.interval DayTime;
  rows = 1;
  body = 1 ∷ zeros 3 (2 ∷ zeros 3 []);
  rest = record { nodes = record { length = pos 1; null_count = pos 0 } ∷ []; buffers = at 0 0 ∷ at 0 8 ∷ []; dictionaries = [] };
  column = primitive DaysMs (types.interval DayTime) ((pos 1 ∷ pos 2 ∷ []) ∷ []) None;
}

-- 1 month, 2 days and -1 nanosecond
abbrev pub months_days_ns_column : Worked
months_days_ns_column = record {
  type = types.interval Months;
  rows = 1;
  body = 1 ∷ zeros 3 (2 ∷ zeros 3 (replicate 8 255));
  rest = record { nodes = record { length = pos 1; null_count = pos 0 } ∷ []; buffers = at 0 0 ∷ at 0 16 ∷ []; dictionaries = [] };
  column = primitive MonthDayNano (types.interval Months) ((pos 1 ∷ pos 2 ∷ negsuc 0 ∷ []) ∷ []) None;
}

-- two values of three bytes
abbrev pub fixed_size_binary_column : Worked
fixed_size_binary_column = record {
  type = types.fixed_size_binary 3;
  rows = 2;
  body = 1 ∷ 2 ∷ 3 ∷ 4 ∷ 5 ∷ 6 ∷ 0 ∷ 0 ∷ [];
  rest = record { nodes = record { length = pos 2; null_count = pos 0 } ∷ []; buffers = at 0 0 ∷ at 0 6 ∷ []; dictionaries = [] };
  column = fixed_size_binary (types.fixed_size_binary 3) (1 ∷ 2 ∷ 3 ∷ 4 ∷ 5 ∷ 6 ∷ []) None;
}

-- two values, the first of two bytes, with 32-bit offsets
abbrev pub binary_column : Worked
binary_column = record {
  type = types.binary;
  rows = 2;
  body = zeros 4 (2 ∷ zeros 3 (3 ∷ zeros 3 (zeros 4 (200 ∷ 7 ∷ 9 ∷ zeros 5 []))));
  rest = record { nodes = record { length = pos 2; null_count = pos 0 } ∷ []; buffers = at 0 0 ∷ at 0 12 ∷ at 16 3 ∷ []; dictionaries = [] };
  column = binary false types.binary (0 ∷ 2 ∷ 3 ∷ []) (200 ∷ 7 ∷ 9 ∷ []) None;
}

-- the string `hi`, with 64-bit offsets
abbrev pub large_utf8_column : Worked
large_utf8_column = record {
  type = types.large_utf8;
  rows = 1;
  body = zeros 8 (2 ∷ zeros 7 (104 ∷ 105 ∷ zeros 6 []));
  rest = record { nodes = record { length = pos 1; null_count = pos 0 } ∷ []; buffers = at 0 0 ∷ at 0 16 ∷ at 16 2 ∷ []; dictionaries = [] };
  column = utf8 true types.large_utf8 (0 ∷ 2 ∷ []) (104 ∷ 105 ∷ []) None;
}

pub null_column_decode : DecodesAsStated null_column
unfolding first_counts decoded_node
null_column_decode = refl

pub null_column_encode : EncodesAsStated null_column
unfolding body_of buffer_specs written_arrays buffers_of
null_column_encode = (refl, refl, refl)

pub boolean_column_decode : DecodesAsStated boolean_column
unfolding bit bits_from first_counts buffer_slice first_buffer decoded_bits decoded_validity decoded_node decoded_buffer decoded_validity_buffer decoded_boolean
boolean_column_decode = refl

pub boolean_column_encode : EncodesAsStated boolean_column
unfolding byte_value bitmap_bytes padded body_of buffer_specs written_arrays buffers_of
boolean_column_encode = (refl, refl, refl)

pub int128_column_decode : DecodesAsStated int128_column
unfolding decoded_natives first_counts buffer_slice first_buffer decoded_bits decoded_validity decoded_node decoded_buffer decoded_validity_buffer decoded_values decoded_primitive
int128_column_decode = refl

pub int128_column_encode : EncodesAsStated int128_column
unfolding values_bytes padded body_of buffer_specs written_arrays buffers_of
int128_column_encode = (refl, refl, refl)

pub int256_column_decode : DecodesAsStated int256_column
unfolding decoded_natives first_counts buffer_slice first_buffer decoded_bits decoded_validity decoded_node decoded_buffer decoded_validity_buffer decoded_values decoded_primitive
int256_column_decode = refl

pub int256_column_encode : EncodesAsStated int256_column
unfolding values_bytes padded body_of buffer_specs written_arrays buffers_of
int256_column_encode = (refl, refl, refl)

pub days_ms_column_decode : DecodesAsStated days_ms_column
unfolding decoded_natives first_counts buffer_slice first_buffer decoded_bits decoded_validity decoded_node decoded_buffer decoded_validity_buffer decoded_values decoded_primitive
days_ms_column_decode = refl

pub days_ms_column_encode : EncodesAsStated days_ms_column
unfolding values_bytes padded body_of buffer_specs written_arrays buffers_of
days_ms_column_encode = (refl, refl, refl)

pub months_days_ns_column_decode : DecodesAsStated months_days_ns_column
unfolding decoded_natives first_counts buffer_slice first_buffer decoded_bits decoded_validity decoded_node decoded_buffer decoded_validity_buffer decoded_values decoded_primitive
months_days_ns_column_decode = refl

pub months_days_ns_column_encode : EncodesAsStated months_days_ns_column
unfolding values_bytes padded body_of buffer_specs written_arrays buffers_of
months_days_ns_column_encode = (refl, refl, refl)

pub fixed_size_binary_column_decode : DecodesAsStated fixed_size_binary_column
unfolding first_counts buffer_slice first_buffer decoded_bits decoded_validity decoded_node decoded_buffer decoded_validity_buffer decoded_bytes decoded_fixed_size_binary
fixed_size_binary_column_decode = refl

pub fixed_size_binary_column_encode : EncodesAsStated fixed_size_binary_column
unfolding padded body_of buffer_specs written_arrays buffers_of
fixed_size_binary_column_encode = (refl, refl, refl)

pub binary_column_decode : DecodesAsStated binary_column
unfolding decoded_natives first_counts buffer_slice first_buffer decoded_bits decoded_validity decoded_node decoded_buffer decoded_validity_buffer decoded_values are_offsets checked_offsets decoded_offsets decoded_data decoded_variable_size_head decoded_binary_parts decoded_binary
binary_column_decode = refl

pub binary_column_encode : EncodesAsStated binary_column
unfolding values_bytes padded body_of buffer_specs written_arrays buffers_of
binary_column_encode = (refl, refl, refl)

pub large_utf8_column_decode : DecodesAsStated large_utf8_column
unfolding decoded_natives first_counts buffer_slice first_buffer decoded_bits decoded_validity decoded_node decoded_buffer decoded_validity_buffer decoded_values are_offsets checked_offsets decoded_offsets decoded_data are_utf8 decoded_variable_size_head decoded_binary_parts decoded_utf8
large_utf8_column_decode =
    let hi : is_utf8 (104 ∷ 105 ∷ []) ≡ true = is_utf8-from_IsUtf8 (104 ∷ 105 ∷ []) (IsUtf8-from_ascii (104 ∷ 105 ∷ []) (search (rules, arith))) in
    rw hi refl

pub large_utf8_column_encode : EncodesAsStated large_utf8_column
unfolding values_bytes padded body_of buffer_specs written_arrays buffers_of
large_utf8_column_encode = (refl, refl, refl)

-- the same values among more bytes
abbrev pub sliced_binary_column : Layout
sliced_binary_column = binary false types.binary (2 ∷ 4 ∷ 5 ∷ []) (50 ∷ 51 ∷ 200 ∷ 7 ∷ 9 ∷ 52 ∷ []) None

pub binary_column_rebased : columns_body (sliced_binary_column ∷ []) ≡ binary_column.body
unfolding values_bytes padded body_of written_arrays buffers_of
binary_column_rebased = refl
