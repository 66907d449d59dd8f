-- Worked examples of buffers of Zstandard. The first is of Arrow C++ 25; the others change it.
use Rattle.std.specs.Prelude.{◌≡◌, ℕ, List, [], ◌∷◌, ◌++◌, Ok, Err, refl}
use Rattle.zstd_decode.specs.ReadResults.{parts}
use Rattle.zstd_decode.specs.FrameHeaders.{spec_window_size, spec_next_window, spec_next_dictionary_id, spec_next_content_size, spec_frame_window, spec_next_frame_header}
use Rattle.zstd_decode.specs.Blocks.{with_raw_block, with_rle_block, with_block_content, with_next_block}
use Rattle.zstd_decode.specs.Frames.{spec_is_size, spec_after_checksum, with_frame_content, spec_after_skippable, with_magic, with_next_frame}
use Rattle.ipc_flatbuf.specs.declared.compression.codec.CompressionCodec.TheVariants.{Zstd}
use Rattle.ipc_flatbuf.specs.declared.compression.error.CompressionError.TheVariants.{Truncated, Magic, Block, Unsupported, Length}
use Rattle.ipc_arrays.specs.CompressedBuffers.{spec_decoded, spec_content_of_size, spec_next_size, content_of, decompressed}

-- a length below 256
abbrev stated : ℕ → List ℕ
stated n = n ∷ 0 ∷ 0 ∷ 0 ∷ 0 ∷ 0 ∷ 0 ∷ 0 ∷ []

-- a frame of one byte, as a raw block
abbrev frame : List ℕ
frame = 0x28 ∷ 0xB5 ∷ 0x2F ∷ 0xFD ∷ 0x20 ∷ 0x01 ∷ 0x09 ∷ 0x00 ∷ 0x00 ∷ 0x77 ∷ []

example_raw : decompressed Zstd (stated 1 ++ frame) ≡ Ok (0x77 ∷ [])
unfolding spec_decoded spec_content_of_size spec_next_size content_of decompressed spec_window_size spec_next_window spec_next_dictionary_id spec_next_content_size spec_frame_window spec_next_frame_header with_raw_block with_rle_block with_block_content with_next_block spec_is_size spec_after_checksum with_frame_content spec_after_skippable with_magic with_next_frame parts
example_raw = refl

-- frames one after another
example_two : decompressed Zstd (stated 2 ++ (frame ++ frame)) ≡ Ok (0x77 ∷ 0x77 ∷ [])
unfolding spec_decoded spec_content_of_size spec_next_size content_of decompressed spec_window_size spec_next_window spec_next_dictionary_id spec_next_content_size spec_frame_window spec_next_frame_header with_raw_block with_rle_block with_block_content with_next_block spec_is_size spec_after_checksum with_frame_content spec_after_skippable with_magic with_next_frame parts
example_two = refl

-- another length, and none of a frame
example_length : decompressed Zstd (stated 2 ++ frame) ≡ Err Length
unfolding spec_decoded spec_content_of_size spec_next_size content_of decompressed spec_window_size spec_next_window spec_next_dictionary_id spec_next_content_size spec_frame_window spec_next_frame_header with_raw_block with_rle_block with_block_content with_next_block spec_is_size spec_after_checksum with_frame_content spec_after_skippable with_magic with_next_frame parts
example_length = refl

example_no_frame : decompressed Zstd (stated 1) ≡ Err Truncated
unfolding spec_decoded spec_content_of_size spec_next_size content_of decompressed spec_window_size spec_next_window spec_next_dictionary_id spec_next_content_size spec_frame_window spec_next_frame_header with_raw_block with_rle_block with_block_content with_next_block spec_is_size spec_after_checksum with_frame_content spec_after_skippable with_magic with_next_frame parts
example_no_frame = refl

-- other bytes after a frame
example_trailing : decompressed Zstd (stated 1 ++ (frame ++ 0 ∷ 0 ∷ 0 ∷ 0 ∷ [])) ≡ Err Magic
unfolding spec_decoded spec_content_of_size spec_next_size content_of decompressed spec_window_size spec_next_window spec_next_dictionary_id spec_next_content_size spec_frame_window spec_next_frame_header with_raw_block with_rle_block with_block_content with_next_block spec_is_size spec_after_checksum with_frame_content spec_after_skippable with_magic with_next_frame parts
example_trailing = refl

-- a dictionary ID, and the reserved block type
example_dictionary : decompressed Zstd (stated 1 ++ (0x28 ∷ 0xB5 ∷ 0x2F ∷ 0xFD ∷ 0x21 ∷ 0x01 ∷ 0x01 ∷ 0x09 ∷ 0x00 ∷ 0x00 ∷ 0x77 ∷ [])) ≡ Err Unsupported
unfolding spec_decoded spec_content_of_size spec_next_size content_of decompressed spec_window_size spec_next_window spec_next_dictionary_id spec_next_content_size spec_frame_window spec_next_frame_header with_raw_block with_rle_block with_block_content with_next_block spec_is_size spec_after_checksum with_frame_content spec_after_skippable with_magic with_next_frame parts
example_dictionary = refl

example_block : decompressed Zstd (stated 1 ++ (0x28 ∷ 0xB5 ∷ 0x2F ∷ 0xFD ∷ 0x20 ∷ 0x01 ∷ 0x0F ∷ 0x00 ∷ 0x00 ∷ 0x77 ∷ [])) ≡ Err Block
unfolding spec_decoded spec_content_of_size spec_next_size content_of decompressed spec_window_size spec_next_window spec_next_dictionary_id spec_next_content_size spec_frame_window spec_next_frame_header with_raw_block with_rle_block with_block_content with_next_block spec_is_size spec_after_checksum with_frame_content spec_after_skippable with_magic with_next_frame parts
example_block = refl
