-- What a buffer of a compressed body decodes to (Message.fbs: table BodyCompression, method BUFFER; Columnar format, Compression).
use Rattle.std.specs.Prelude.{ℕ, zero, suc, ℤ, pos, negsuc, List, [], ◌++◌, length, drop, Option, Some, None, Result, Ok, Err, nat_le, ◌==◌, if◌then◌else◌}
use Rattle.std.specs.Int.{w64, from_le_bytes, cast_signed}
use Rattle.lz4_frame.specs.Frames.{decoded_frame}
use Rattle.zstd_decode.specs.Frames.{decoded_frames}
use Rattle.ipc_flatbuf.specs.declared.compression.codec.CompressionCodec.{CompressionCodec}
use Rattle.ipc_flatbuf.specs.declared.compression.codec.CompressionCodec.TheVariants.{Lz4Frame, Zstd}
use Rattle.ipc_flatbuf.specs.declared.compression.error.CompressionError.{CompressionError}
use Rattle.ipc_flatbuf.specs.declared.compression.error.CompressionError.TheVariants.{Truncated, Length}
use Rattle.ipc_arrays.specs.CompressionResults.{◌>>=◌, check, with_error}
use Rattle.ipc_arrays.specs.CompressionCodecs.{error_of_lz4, error_of_zstd}

-- what one LZ4 frame, or Zstandard frames one after another, decode to, at most limit bytes
unfoldable pub spec_decoded : CompressionCodec → ℕ → List ℕ → Result (List ℕ) CompressionError
spec_decoded Lz4Frame limit bytes = with_error error_of_lz4 (decoded_frame limit bytes)
spec_decoded Zstd limit bytes = with_error error_of_zstd (decoded_frames limit bytes)

-- what they decode to, which has exactly this size
unfoldable pub spec_content_of_size : CompressionCodec → ℕ → List ℕ → Result (List ℕ) CompressionError
spec_content_of_size codec size bytes = do
  content ← spec_decoded codec size bytes
  whole ← check (length content == size) Length
  Ok content

-- the size of a content of this stated length; -1 means that the content is not compressed
abbrev pub spec_stated_size : ℤ → Result (Option ℕ) CompressionError
spec_stated_size (pos size) = Ok (Some size)
spec_stated_size (negsuc zero) = Ok None
spec_stated_size (negsuc (suc n)) = Err Length

-- the stated size, a signed number of eight bytes in little-endian order, and the bytes after it
unfoldable pub spec_next_size : List ℕ → Result (Option ℕ × List ℕ) CompressionError
spec_next_size bytes = do
  enough ← check (nat_le 8 (length bytes)) Truncated
  size ← spec_stated_size (cast_signed w64 (from_le_bytes w64 bytes))
  Ok (size, drop 8 bytes)

-- a content of this size, None where it is not compressed
unfoldable pub content_of : CompressionCodec → Option ℕ → List ℕ → Result (List ℕ) CompressionError
content_of codec None bytes = Ok bytes
content_of codec (Some size) bytes = spec_content_of_size codec size bytes

-- What a buffer decodes to. An empty buffer has no stated size.
unfoldable pub decompressed : CompressionCodec → List ℕ → Result (List ℕ) CompressionError
decompressed codec bytes =
    if length bytes == 0 then Ok []
    else (spec_next_size bytes >>= λ x. content_of codec x.0 x.1)

-- the output with a content at its end
abbrev pub with_content : List ℕ → Result (List ℕ) CompressionError → Result (List ℕ) CompressionError
with_content output (Ok content) = Ok (output ++ content)
with_content output (Err e) = Err e
