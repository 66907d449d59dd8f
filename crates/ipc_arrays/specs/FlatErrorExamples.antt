-- Worked examples: the first error of a column without children ("Physical Memory Layout"). What is read after it is wrong or absent too.
use Rattle.std.specs.Prelude.{ℕ, pos, negsuc, List, [], ◌∷◌, ◌++◌, refl}
use Rattle.ipc_flatbuf.specs.declared.error.IpcReadError.TheVariants.{BufferCount, BufferRange, BufferTooShort, NodeRange, NullCount, OffsetPastChild, Offsets, RowCount}
use Rattle.ipc_flatbuf.specs.declared.batch.parts.FieldNode.{FieldNode}
use Rattle.ipc_flatbuf.specs.declared.batch.parts.BufferSpec.{BufferSpec}
use Rattle.nest_memory.specs.Bits.{bit, bits_from}
use Rattle.nest_memory.specs.Rising.{are_offsets}
use Rattle.nest_memory.specs.TypeTree as types
use Rattle.ipc_arrays.specs.FixedWidth.{decoded_natives}
use Rattle.ipc_arrays.specs.Decoding.{first_counts, buffer_slice, first_buffer, decoded_bits, decoded_validity, decoded_node, decoded_buffer, decoded_validity_buffer, decoded_values, decoded_primitive, checked_offsets, decoded_offsets, decoded_data, decoded_variable_size_head, decoded_binary_parts, decoded_binary}
use Rattle.ipc_arrays.specs.ReadExamples.{EncodedColumn, IsRejected, at, node, word}

-- two rows of 32 bits: a byte of validity, and the values 7 and 8 from byte 8 on
abbrev pub int_column : FieldNode → List BufferSpec → EncodedColumn
int_column counts buffers = record {
  type = types.int32;
  rows = 2;
  body = word 3 ++ (word 0 ++ (word 7 ++ word 8));
  rest = record { nodes = counts ∷ []; buffers = buffers; dictionaries = [] };
}

-- two rows of bytes: the offsets 0, 2 and 4, the last byte of the second as given; then 0
abbrev pub binary_column : ℕ → List BufferSpec → EncodedColumn
binary_column sign buffers = record {
  type = types.binary;
  rows = 2;
  body = word 0 ++ (2 ∷ 0 ∷ 0 ∷ sign ∷ word 4 ++ word 0);
  rest = record { nodes = node 2 0 ∷ []; buffers = buffers; dictionaries = [] };
}

pub negative_slots : IsRejected (int_column (record { length = negsuc 0; null_count = pos 0 }) []) NodeRange
unfolding bit bits_from decoded_natives first_counts buffer_slice first_buffer decoded_bits decoded_validity decoded_node decoded_buffer decoded_validity_buffer decoded_values decoded_primitive
negative_slots = refl

-- four nulls in three slots, where two rows are expected
pub more_nulls : IsRejected (int_column (node 3 4) []) NodeRange
unfolding bit bits_from decoded_natives first_counts buffer_slice first_buffer decoded_bits decoded_validity decoded_node decoded_buffer decoded_validity_buffer decoded_values decoded_primitive
more_nulls = refl

pub other_rows : IsRejected (int_column (node 3 0) []) RowCount
unfolding bit bits_from decoded_natives first_counts buffer_slice first_buffer decoded_bits decoded_validity decoded_node decoded_buffer decoded_validity_buffer decoded_values decoded_primitive
other_rows = refl

pub no_validity : IsRejected (int_column (node 2 0) []) BufferCount
unfolding bit bits_from decoded_natives first_counts buffer_slice first_buffer decoded_bits decoded_validity decoded_node decoded_buffer decoded_validity_buffer decoded_values decoded_primitive
no_validity = refl

-- a validity buffer past the body of 16 bytes
pub validity_outside : IsRejected (int_column (node 2 1) (at 0 17 ∷ [])) BufferRange
unfolding bit bits_from decoded_natives first_counts buffer_slice first_buffer decoded_bits decoded_validity decoded_node decoded_buffer decoded_validity_buffer decoded_values decoded_primitive
validity_outside = refl

-- two bits of 1, and no buffer of values
pub other_nulls : IsRejected (int_column (node 2 1) (at 0 1 ∷ [])) NullCount
unfolding bit bits_from decoded_natives first_counts buffer_slice first_buffer decoded_bits decoded_validity decoded_node decoded_buffer decoded_validity_buffer decoded_values decoded_primitive
other_nulls = refl

pub no_values : IsRejected (int_column (node 2 0) (at 0 0 ∷ [])) BufferCount
unfolding bit bits_from decoded_natives first_counts buffer_slice first_buffer decoded_bits decoded_validity decoded_node decoded_buffer decoded_validity_buffer decoded_values decoded_primitive
no_values = refl

pub short_values : IsRejected (int_column (node 2 0) (at 0 0 ∷ at 8 7 ∷ [])) BufferTooShort
unfolding bit bits_from decoded_natives first_counts buffer_slice first_buffer decoded_bits decoded_validity decoded_node decoded_buffer decoded_validity_buffer decoded_values decoded_primitive
short_values = refl

-- 255 is a byte of the second offset, and there is no buffer of data
pub negative_offset : IsRejected (binary_column 255 (at 0 0 ∷ at 0 12 ∷ [])) Offsets
unfolding bit bits_from decoded_natives first_counts buffer_slice first_buffer decoded_bits decoded_validity decoded_node decoded_buffer decoded_validity_buffer decoded_values decoded_primitive are_offsets checked_offsets decoded_offsets decoded_data decoded_variable_size_head decoded_binary_parts decoded_binary
negative_offset = refl

pub falling_offset : IsRejected (binary_column 0 (at 0 0 ∷ at 4 12 ∷ [])) Offsets
unfolding bit bits_from decoded_natives first_counts buffer_slice first_buffer decoded_bits decoded_validity decoded_node decoded_buffer decoded_validity_buffer decoded_values decoded_primitive are_offsets checked_offsets decoded_offsets decoded_data decoded_variable_size_head decoded_binary_parts decoded_binary
falling_offset = refl

-- three bytes of data, and 4 as the last offset
pub data_outside : IsRejected (binary_column 0 (at 0 0 ∷ at 0 12 ∷ at 12 3 ∷ [])) OffsetPastChild
unfolding bit bits_from decoded_natives first_counts buffer_slice first_buffer decoded_bits decoded_validity decoded_node decoded_buffer decoded_validity_buffer decoded_values decoded_primitive are_offsets checked_offsets decoded_offsets decoded_data decoded_variable_size_head decoded_binary_parts decoded_binary
data_outside = refl
