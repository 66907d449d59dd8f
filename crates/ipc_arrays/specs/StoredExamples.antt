-- Record batches with view arrays and small decimals, byte by byte, and what they are converted to.
use Rattle.std.specs.Prelude.{◌≡◌, ℕ, ℤ, pos, false, List, [], ◌∷◌, ◌++◌, replicate, Some, None, Ok, Err, refl}
use Rattle.ipc_flatbuf.specs.declared.batch.parts.FieldNode.{FieldNode}
use Rattle.ipc_flatbuf.specs.declared.batch.parts.BufferSpec.{BufferSpec}
use Rattle.ipc_flatbuf.specs.declared.compression.codec.CompressionCodec.TheVariants.{Lz4Frame}
use Rattle.ipc_flatbuf.specs.declared.error.IpcReadError.TheVariants.{BufferCount, BufferTooShort, View}
use Rattle.ipc_flatbuf.specs.declared.projection.SkippedField.{SkippedField}
use Rattle.ipc_flatbuf.specs.declared.projection.StoredArray.TheVariants as stored
use Rattle.nest_memory.specs.Bits.{bit, bits_from}
use Rattle.ipc_arrays.specs.BodyBuffers.{padded, body_of, buffer_specs}
use Rattle.ipc_arrays.specs.CompressedBuffers.{spec_next_size, content_of, decompressed}
use Rattle.ipc_arrays.specs.Decoding.{first_counts, buffer_slice, decoded_bits, decoded_validity, decoded_values}
use Rattle.ipc_arrays.specs.FixedWidth.{decoded_natives, values_bytes}
use Rattle.ipc_arrays.specs.Projection.{ProjectionState, skip_first, skipped_views, skipped_column}
use Rattle.ipc_arrays.specs.Stored.{ConvertedParts, plain_content, stored_content, stored_contents, string_contents, view_contents, widened, decimal_contents, stored_views, stored_decimals, taken_buffers, taken_node, first_variadic_count, taken_view_buffers, plain_array, view_array, decimal_array, skipped_arrays, converted_each, converted_batch}
use Rattle.ipc_arrays.specs.Views.{view_number, variadic_slice, long_value, spec_view_value, viewed_string, viewed_strings, packed_strings, spec_packed_views}

abbrev pub node : ℕ → ℕ → FieldNode
node n nulls = record { length = pos n; null_count = pos nulls }

abbrev pub at : ℕ → ℕ → BufferSpec
at offset size = record { offset = pos offset; length = pos size }

abbrev pub ahead : List FieldNode → List BufferSpec → List ℤ → ProjectionState
ahead nodes buffers more = record { rest = record { nodes = nodes; buffers = buffers; dictionaries = [] }; more = more }

abbrev parts : List BufferSpec → List ℕ → List ℤ → ConvertedParts
parts buffers body more = record { buffers = buffers; body = body; more = more }

-- a number of four bytes, and one of eight
abbrev pub word : ℕ → List ℕ
word n = n ∷ 0 ∷ 0 ∷ 0 ∷ []

abbrev long : ℕ → List ℕ
long n = n ∷ 0 ∷ 0 ∷ 0 ∷ 0 ∷ 0 ∷ 0 ∷ 0 ∷ []

-- ---- views

-- "bcdefghijklmno", 14 bytes
abbrev letters : List ℕ
letters = 98 ∷ 99 ∷ 100 ∷ 101 ∷ 102 ∷ 103 ∷ 104 ∷ 105 ∷ 106 ∷ 107 ∷ 108 ∷ 109 ∷ 110 ∷ 111 ∷ []

-- "a" before padding that is not zero, a null over bytes that are no view, and a third view; then two variadic buffers, of 3 and of 16 bytes
abbrev pub views_body : List ℕ → List ℕ
views_body third = (5 ∷ 0 ∷ 0 ∷ 0 ∷ 0 ∷ 0 ∷ 0 ∷ 0 ∷ []) ++ ((word 1 ++ 97 ∷ replicate 11 9) ++ (replicate 16 255 ++ (third ++ (1 ∷ 2 ∷ 3 ∷ 120 ∷ 121 ∷ letters))))

abbrev pub views_ahead : ProjectionState
views_ahead = ahead (node 3 1 ∷ []) (at 0 1 ∷ at 8 48 ∷ at 56 3 ∷ at 59 16 ∷ []) (pos 2 ∷ [])

-- 14 bytes that begin "bcde", from an offset of a variadic buffer on
abbrev pub third_view : ℕ → ℕ → List ℕ
third_view index offset = word 14 ++ (98 ∷ 99 ∷ 100 ∷ 101 ∷ word index ++ word offset)

-- the validity buffer, the offsets 0, 1, 1 and 15, and the data
abbrev pub views_read : ConvertedParts
views_read = parts (at 0 1 ∷ at 8 32 ∷ at 40 15 ∷ []) (long 5 ++ (long 0 ++ (long 1 ++ (long 1 ++ (long 15 ++ (97 ∷ letters ++ 0 ∷ [])))))) []

pub views_are : converted_batch None (stored.View ∷ []) (views_body (third_view 1 2)) views_ahead ≡ Ok views_read
unfolding padded body_of buffer_specs bit bits_from first_counts buffer_slice decoded_bits decoded_validity values_bytes skip_first plain_content stored_content stored_contents string_contents view_contents stored_views taken_buffers taken_node first_variadic_count taken_view_buffers view_array converted_each converted_batch view_number variadic_slice long_value spec_view_value viewed_string viewed_strings packed_strings spec_packed_views
views_are = refl

-- the prefix is "bcdf"
pub wrong_prefix : converted_batch None (stored.View ∷ []) (views_body (word 14 ++ (98 ∷ 99 ∷ 100 ∷ 102 ∷ word 1 ++ word 2))) views_ahead ≡ Err View
unfolding bit bits_from first_counts buffer_slice decoded_bits decoded_validity skip_first plain_content stored_content stored_contents view_contents stored_views taken_buffers taken_node first_variadic_count taken_view_buffers view_array converted_each converted_batch view_number variadic_slice long_value spec_view_value viewed_string viewed_strings spec_packed_views
wrong_prefix = refl

-- the length is -1
pub negative_length : converted_batch None (stored.View ∷ []) (views_body (replicate 4 255 ++ replicate 12 0)) views_ahead ≡ Err View
unfolding bit bits_from first_counts buffer_slice decoded_bits decoded_validity skip_first plain_content stored_content stored_contents view_contents stored_views taken_buffers taken_node first_variadic_count taken_view_buffers view_array converted_each converted_batch view_number variadic_slice long_value spec_view_value viewed_string viewed_strings spec_packed_views
negative_length = refl

-- 14 bytes from offset 3 of 16 bytes on
pub past_buffer : converted_batch None (stored.View ∷ []) (views_body (third_view 1 3)) views_ahead ≡ Err View
unfolding bit bits_from first_counts buffer_slice decoded_bits decoded_validity skip_first plain_content stored_content stored_contents view_contents stored_views taken_buffers taken_node first_variadic_count taken_view_buffers view_array converted_each converted_batch view_number variadic_slice long_value spec_view_value viewed_string viewed_strings spec_packed_views
past_buffer = refl

-- the third of two variadic buffers
pub past_buffers : converted_batch None (stored.View ∷ []) (views_body (third_view 2 2)) views_ahead ≡ Err View
unfolding bit bits_from first_counts buffer_slice decoded_bits decoded_validity skip_first plain_content stored_content stored_contents view_contents stored_views taken_buffers taken_node first_variadic_count taken_view_buffers view_array converted_each converted_batch view_number variadic_slice long_value spec_view_value viewed_string viewed_strings spec_packed_views
past_buffers = refl

-- a variadic count is missing, and views are missing
pub no_count : converted_batch None (stored.View ∷ []) [] (ahead (node 0 0 ∷ []) (at 0 0 ∷ at 0 0 ∷ []) []) ≡ Err BufferCount
unfolding first_counts taken_node first_variadic_count taken_view_buffers view_array converted_each converted_batch
no_count = refl

pub few_views : converted_batch None (stored.View ∷ []) (replicate 31 0) (ahead (node 2 0 ∷ []) (at 0 0 ∷ at 0 31 ∷ []) (pos 0 ∷ [])) ≡ Err BufferTooShort
unfolding first_counts buffer_slice decoded_validity skip_first plain_content stored_content stored_contents view_contents stored_views taken_buffers taken_node first_variadic_count taken_view_buffers view_array converted_each converted_batch viewed_strings spec_packed_views
few_views = refl

-- ---- compression

-- a content of LZ4 that is not compressed, after the length -1
abbrev uncompressed : List ℕ → List ℕ
uncompressed content = replicate 8 255 ++ content

-- 14 bytes in the only variadic buffer; no validity
abbrev pub compressed_body : List ℕ
compressed_body = uncompressed (third_view 0 0) ++ uncompressed letters

abbrev pub compressed_ahead : ProjectionState
compressed_ahead = ahead (node 1 0 ∷ []) (at 0 0 ∷ at 0 24 ∷ at 24 22 ∷ []) (pos 1 ∷ [])

abbrev pub compressed_read : ConvertedParts
compressed_read = parts (at 0 0 ∷ at 0 16 ∷ at 16 14 ∷ []) (long 0 ++ (long 14 ++ (letters ++ 0 ∷ 0 ∷ []))) []

pub compressed_are : converted_batch (Some Lz4Frame) (stored.View ∷ []) compressed_body compressed_ahead ≡ Ok compressed_read
unfolding spec_next_size content_of decompressed padded body_of buffer_specs first_counts buffer_slice decoded_validity values_bytes skip_first plain_content stored_content stored_contents string_contents view_contents stored_views taken_buffers taken_node first_variadic_count taken_view_buffers view_array converted_each converted_batch view_number variadic_slice long_value spec_view_value viewed_string viewed_strings packed_strings spec_packed_views
compressed_are = refl

-- ---- decimals

-- -5 in 32 bits, and 5 in 64 bits
abbrev pub decimals_body : List ℕ
decimals_body = 251 ∷ 255 ∷ 255 ∷ 255 ∷ long 5

abbrev pub decimals_ahead : ProjectionState
decimals_ahead = ahead (node 1 0 ∷ node 1 0 ∷ []) (at 0 0 ∷ at 0 4 ∷ at 0 0 ∷ at 4 8 ∷ []) []

abbrev pub decimals_read : ConvertedParts
decimals_read = parts (at 0 0 ∷ at 0 16 ∷ at 16 0 ∷ at 16 16 ∷ []) (251 ∷ replicate 15 255 ++ (5 ∷ replicate 15 0)) []

pub decimals_are : converted_batch None (stored.Decimal32 ∷ stored.Decimal64 ∷ []) decimals_body decimals_ahead ≡ Ok decimals_read
unfolding padded body_of buffer_specs first_counts buffer_slice decoded_natives decoded_values values_bytes skip_first plain_content stored_content stored_contents widened decimal_contents stored_decimals taken_buffers taken_node decimal_array converted_each converted_batch
decimals_are = refl

-- ---- skipped arrays

-- a view array that is skipped, with one variadic buffer, before an array of two buffers
abbrev pub skipped_field : SkippedField
skipped_field = record { nodes = 1; buffers = 2; views = 1; has_union = false; has_dictionary = false }

abbrev pub skipped_body : List ℕ
skipped_body = replicate 41 0 ++ 7 ∷ 0 ∷ 0 ∷ []

abbrev pub skipped_ahead : ProjectionState
skipped_ahead = ahead (node 2 0 ∷ node 3 0 ∷ []) (at 0 0 ∷ at 0 32 ∷ at 32 9 ∷ at 0 0 ∷ at 41 3 ∷ []) (pos 1 ∷ [])

abbrev pub skipped_read : ConvertedParts
skipped_read = parts (at 0 0 ∷ at 0 0 ∷ at 0 0 ∷ at 0 0 ∷ at 0 3 ∷ []) (long 7 ++ []) (pos 1 ∷ [])

pub skipped_are : converted_batch None (stored.Skipped skipped_field ∷ stored.Plain 2 ∷ []) skipped_body skipped_ahead ≡ Ok skipped_read
unfolding padded body_of buffer_specs buffer_slice skip_first skipped_views skipped_column plain_content stored_content stored_contents taken_buffers plain_array skipped_arrays converted_each converted_batch
skipped_are = refl

-- a buffer that no array has
pub buffer_left : converted_batch None [] [] (ahead [] (at 0 0 ∷ []) []) ≡ Err BufferCount
unfolding converted_each converted_batch
buffer_left = refl
