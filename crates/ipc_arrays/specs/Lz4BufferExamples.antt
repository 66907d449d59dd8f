-- Worked examples of buffers of LZ4. The first two are bytes of Arrow C++ 25; the others change one of them.
use Rattle.std.specs.Prelude.{◌≡◌, ℕ, List, [], ◌∷◌, ◌++◌, Ok, Err, refl}
use Rattle.lz4_frame.specs.XxHash.{spec_word_at, spec_word_round, spec_word_rounds, spec_byte_round, spec_byte_rounds, spec_avalanche, spec_initial_sum, spec_remaining_rounds, spec_xxh32}
use Rattle.lz4_frame.specs.Blocks.{spec_extended_length, spec_next_length, with_match, with_checked_match, with_literals, with_match_of, sequences}
use Rattle.lz4_frame.specs.Frames.{spec_next_content_size, spec_max_block_size, spec_next_descriptor, spec_after_checksum, with_block_data, with_next_block, with_blocks, spec_is_size, spec_magic_error, decoded_frame}
use Rattle.ipc_flatbuf.specs.declared.compression.codec.CompressionCodec.TheVariants.{Lz4Frame}
use Rattle.ipc_flatbuf.specs.declared.compression.error.CompressionError.TheVariants.{Truncated, Magic, Block, Checksum, Unsupported, Length}
use Rattle.ipc_arrays.specs.CompressedBuffers.{spec_decoded, spec_content_of_size, spec_next_size, content_of, decompressed}

-- a length below 256, and one of -1 - n
abbrev stated : ℕ → List ℕ
stated n = n ∷ 0 ∷ 0 ∷ 0 ∷ 0 ∷ 0 ∷ 0 ∷ 0 ∷ []

abbrev negative : ℕ → List ℕ
negative low = low ∷ 255 ∷ 255 ∷ 255 ∷ 255 ∷ 255 ∷ 255 ∷ 255 ∷ []

-- the magic number and the descriptor
abbrev header : List ℕ
header = 0x04 ∷ 0x22 ∷ 0x4D ∷ 0x18 ∷ 0x60 ∷ 0x40 ∷ 0x82 ∷ []

-- an uncompressed block of "abc", and the EndMark
abbrev stored_abc : List ℕ
stored_abc = 3 ∷ 0 ∷ 0 ∷ 0x80 ∷ 97 ∷ 98 ∷ 99 ∷ 0 ∷ 0 ∷ 0 ∷ 0 ∷ []

abbrev abc : List ℕ
abc = 97 ∷ 98 ∷ 99 ∷ []

example_stored : decompressed Lz4Frame (stated 3 ++ (header ++ stored_abc)) ≡ Ok abc
unfolding spec_decoded spec_content_of_size spec_next_size content_of decompressed decoded_frame spec_next_descriptor spec_next_content_size spec_max_block_size spec_after_checksum with_block_data with_next_block with_blocks spec_is_size spec_magic_error spec_word_at spec_word_round spec_word_rounds spec_byte_round spec_byte_rounds spec_avalanche spec_initial_sum spec_remaining_rounds spec_xxh32
example_stored = refl

-- a literal and a match of seven bytes of offset 1, and five literals
example_match : decompressed Lz4Frame (stated 13 ++ (header ++ (10 ∷ 0 ∷ 0 ∷ 0 ∷ 0x13 ∷ 0x77 ∷ 1 ∷ 0 ∷ 0x50 ∷ 0x77 ∷ 0x77 ∷ 0x77 ∷ 0x77 ∷ 0x07 ∷ 0 ∷ 0 ∷ 0 ∷ 0 ∷ []))) ≡ Ok (0x77 ∷ 0x77 ∷ 0x77 ∷ 0x77 ∷ 0x77 ∷ 0x77 ∷ 0x77 ∷ 0x77 ∷ 0x77 ∷ 0x77 ∷ 0x77 ∷ 0x77 ∷ 0x07 ∷ [])
unfolding spec_decoded spec_content_of_size spec_next_size content_of decompressed decoded_frame spec_next_descriptor spec_next_content_size spec_max_block_size spec_after_checksum with_block_data with_next_block with_blocks spec_is_size spec_magic_error spec_word_at spec_word_round spec_word_rounds spec_byte_round spec_byte_rounds spec_avalanche spec_initial_sum spec_remaining_rounds spec_xxh32 spec_extended_length spec_next_length with_match with_checked_match with_literals with_match_of sequences
example_match = refl

-- an empty buffer, and one that is not compressed
example_empty : decompressed Lz4Frame [] ≡ Ok []
unfolding decompressed
example_empty = refl

example_uncompressed : decompressed Lz4Frame (negative 255 ++ abc) ≡ Ok abc
unfolding spec_next_size content_of decompressed
example_uncompressed = refl

-- other negative lengths: the frame is not looked at
example_negative : decompressed Lz4Frame (negative 254 ++ abc) ≡ Err Length
unfolding spec_next_size content_of decompressed
example_negative = refl

-- seven bytes, no frame, and a frame without its last byte
example_short : decompressed Lz4Frame (3 ∷ 0 ∷ 0 ∷ 0 ∷ 0 ∷ 0 ∷ 0 ∷ []) ≡ Err Truncated
unfolding spec_next_size decompressed
example_short = refl

example_no_frame : decompressed Lz4Frame (stated 0) ≡ Err Truncated
unfolding spec_decoded spec_content_of_size spec_next_size content_of decompressed decoded_frame
example_no_frame = refl

example_truncated : decompressed Lz4Frame (stated 3 ++ (header ++ (3 ∷ 0 ∷ 0 ∷ 0x80 ∷ 97 ∷ 98 ∷ 99 ∷ 0 ∷ 0 ∷ 0 ∷ []))) ≡ Err Truncated
unfolding spec_decoded spec_content_of_size spec_next_size content_of decompressed decoded_frame spec_next_descriptor spec_next_content_size spec_max_block_size spec_after_checksum with_block_data with_next_block with_blocks spec_is_size spec_magic_error spec_word_at spec_word_round spec_word_rounds spec_byte_round spec_byte_rounds spec_avalanche spec_initial_sum spec_remaining_rounds spec_xxh32
example_truncated = refl

-- another magic number, though the stated length differs too
example_magic : decompressed Lz4Frame (stated 4 ++ (0x02 ∷ 0x21 ∷ 0x4C ∷ 0x18 ∷ [])) ≡ Err Magic
unfolding spec_decoded spec_content_of_size spec_next_size content_of decompressed decoded_frame spec_magic_error
example_magic = refl

-- a match of offset 2 after one literal
example_block : decompressed Lz4Frame (stated 13 ++ (header ++ (10 ∷ 0 ∷ 0 ∷ 0 ∷ 0x13 ∷ 0x77 ∷ 2 ∷ 0 ∷ 0x50 ∷ 0x77 ∷ 0x77 ∷ 0x77 ∷ 0x77 ∷ 0x07 ∷ 0 ∷ 0 ∷ 0 ∷ 0 ∷ []))) ≡ Err Block
unfolding spec_decoded spec_content_of_size spec_next_size content_of decompressed decoded_frame spec_next_descriptor spec_next_content_size spec_max_block_size spec_after_checksum with_block_data with_next_block with_blocks spec_is_size spec_magic_error spec_word_at spec_word_round spec_word_rounds spec_byte_round spec_byte_rounds spec_avalanche spec_initial_sum spec_remaining_rounds spec_xxh32 spec_extended_length spec_next_length with_match with_checked_match with_literals with_match_of sequences
example_block = refl

-- another checksum of the descriptor, though the stated length differs too
example_checksum : decompressed Lz4Frame (stated 4 ++ (0x04 ∷ 0x22 ∷ 0x4D ∷ 0x18 ∷ 0x60 ∷ 0x40 ∷ 0x83 ∷ stored_abc)) ≡ Err Checksum
unfolding spec_decoded spec_content_of_size spec_next_size content_of decompressed decoded_frame spec_next_descriptor spec_next_content_size spec_max_block_size spec_after_checksum with_block_data with_next_block with_blocks spec_is_size spec_magic_error spec_word_at spec_word_round spec_word_rounds spec_byte_round spec_byte_rounds spec_avalanche spec_initial_sum spec_remaining_rounds spec_xxh32
example_checksum = refl

-- a dictionary ID
example_dictionary : decompressed Lz4Frame (stated 3 ++ (0x04 ∷ 0x22 ∷ 0x4D ∷ 0x18 ∷ 0x61 ∷ 0x40 ∷ [])) ≡ Err Unsupported
unfolding spec_decoded spec_content_of_size spec_next_size content_of decompressed decoded_frame spec_next_descriptor
example_dictionary = refl

-- two bytes, four bytes, and a byte after the frame
example_too_long : decompressed Lz4Frame (stated 2 ++ (header ++ stored_abc)) ≡ Err Length
unfolding spec_decoded spec_content_of_size spec_next_size content_of decompressed decoded_frame spec_next_descriptor spec_next_content_size spec_max_block_size spec_after_checksum with_block_data with_next_block with_blocks spec_is_size spec_magic_error spec_word_at spec_word_round spec_word_rounds spec_byte_round spec_byte_rounds spec_avalanche spec_initial_sum spec_remaining_rounds spec_xxh32
example_too_long = refl

example_too_short : decompressed Lz4Frame (stated 4 ++ (header ++ stored_abc)) ≡ Err Length
unfolding spec_decoded spec_content_of_size spec_next_size content_of decompressed decoded_frame spec_next_descriptor spec_next_content_size spec_max_block_size spec_after_checksum with_block_data with_next_block with_blocks spec_is_size spec_magic_error spec_word_at spec_word_round spec_word_rounds spec_byte_round spec_byte_rounds spec_avalanche spec_initial_sum spec_remaining_rounds spec_xxh32
example_too_short = refl

example_trailing : decompressed Lz4Frame (stated 3 ++ (header ++ (stored_abc ++ 0 ∷ []))) ≡ Err Length
unfolding spec_decoded spec_content_of_size spec_next_size content_of decompressed decoded_frame spec_next_descriptor spec_next_content_size spec_max_block_size spec_after_checksum with_block_data with_next_block with_blocks spec_is_size spec_magic_error spec_word_at spec_word_round spec_word_rounds spec_byte_round spec_byte_rounds spec_avalanche spec_initial_sum spec_remaining_rounds spec_xxh32
example_trailing = refl
