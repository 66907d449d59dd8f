-- What is written of a buffer, by the codec LZ4.
use Rattle.std.specs.Prelude.{◌≡◌, ◌⊎◌, ℕ, ◌<◌, ℤ, pos, negsuc, List, [], ◌++◌, length, Ok}
use Rattle.std.specs.Int.{w64, to_le_bytes, cast_unsigned}
use Rattle.lz4_frame.specs.FrameEncodings.{IsWrittenFrame}
use Rattle.ipc_flatbuf.specs.declared.compression.codec.CompressionCodec.TheVariants.{Lz4Frame}
use Rattle.ipc_arrays.specs.CompressedBuffers.{decompressed}

-- a stated length, and the bytes after it
unfoldable pub after_length : ℤ → List ℕ → List ℕ
after_length length bytes = to_le_bytes w64 (cast_unsigned w64 length) ++ bytes

-- the length of the content and a shorter LZ4 frame of it
abbrev pub IsCompressedBuffer : List ℕ → List ℕ → Type 0
IsCompressedBuffer buffer content = (frame : List ℕ) × IsWrittenFrame content frame × (length frame < length content) × (buffer ≡ after_length (pos (length content)) frame)

-- This buffer decodes to the content. It is empty like the content, compressed, or the content itself after a length of -1.
pub record IsWrittenBuffer (buffer content : List ℕ) : Type 0 where
  pub decodes : decompressed Lz4Frame buffer ≡ Ok content
  pub shape : ((buffer ≡ []) × (content ≡ [])) ⊎ (IsCompressedBuffer buffer content ⊎ (buffer ≡ after_length (negsuc 0) content))

-- new is old with a buffer of this content at its end
abbrev pub AppendsBuffer : List ℕ → List ℕ → List ℕ → Type 0
AppendsBuffer old new content = (buffer : List ℕ) × IsWrittenBuffer buffer content × (new ≡ old ++ buffer)
