-- The compression of the buffers of a record batch (Message.fbs: table BodyCompression, enums CompressionType and BodyCompressionMethod).
use Rattle.std.specs.Prelude.{ℕ, List, Option, Some, None, Result, Ok, Err, ◌==◌, if◌then◌else◌}
use Rattle.std.specs.Int.{w8}
use Rattle.ipc_flatbuf.specs.ReadResults.{◌>>=◌, check}
use Rattle.ipc_flatbuf.specs.declared.error.IpcReadError.{IpcReadError}
use Rattle.ipc_flatbuf.specs.declared.error.IpcReadError.TheVariants as errors
use Rattle.ipc_flatbuf.specs.declared.error.IpcReadError.TheVariants.{UnsupportedCompression, Compression}
use Rattle.ipc_flatbuf.specs.declared.compression.error.CompressionError.{CompressionError}
use Rattle.ipc_flatbuf.specs.declared.compression.error.CompressionError.TheVariants as compression
use Rattle.ipc_flatbuf.specs.declared.compression.codec.CompressionCodec.{CompressionCodec}
use Rattle.ipc_flatbuf.specs.declared.compression.codec.CompressionCodec.TheVariants.{Lz4Frame, Zstd}
use Rattle.ipc_flatbuf.specs.Flatbuffers.{number_at, field, spec_read_table}

-- CompressionType: LZ4_FRAME, ZSTD
abbrev pub codec_number : CompressionCodec → ℕ
codec_number Lz4Frame = 0
codec_number Zstd = 1

abbrev pub spec_codec_of : ℕ → Result CompressionCodec IpcReadError
spec_codec_of number = if number == 0 then Ok Lz4Frame else (if number == 1 then Ok Zstd else Err UnsupportedCompression)

-- BodyCompressionMethod: 0 is BUFFER, each buffer by itself
abbrev pub spec_check_method : ℕ → Result (Unit {0}) IpcReadError
spec_check_method number = check (number == 0) UnsupportedCompression

-- the codec in the table BodyCompression, and the budget left; a batch without the table is not compressed
unfoldable pub compression_at : List ℕ → Option ℕ → ℕ → Result (Option CompressionCodec × ℕ) IpcReadError
compression_at bytes None left = Ok (None, left)
compression_at bytes (Some position) left = do
  table ← spec_read_table bytes position left
  number ← field (number_at w8 bytes) 0 bytes table.0 0
  codec ← spec_codec_of number
  method ← field (number_at w8 bytes) 0 bytes table.0 1
  each ← spec_check_method method
  Ok (Some codec, table.1)

-- the error of reading a compressed buffer
abbrev pub read_error_of : CompressionError → IpcReadError
read_error_of compression.BufferRange = errors.BufferRange
read_error_of compression.Memory = errors.Memory
read_error_of error = Compression error
