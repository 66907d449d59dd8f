-- The error of a buffer for each error of a codec.
use Rattle.lz4_frame.specs.declared.error.Lz4Error.{Lz4Error}
use Rattle.lz4_frame.specs.declared.error.Lz4Error.TheVariants as lz4
use Rattle.zstd_decode.specs.declared.error.ZstdError.{ZstdError}
use Rattle.zstd_decode.specs.declared.error.ZstdError.TheVariants as zstandard
use Rattle.ipc_flatbuf.specs.declared.compression.error.CompressionError.{CompressionError}
use Rattle.ipc_flatbuf.specs.declared.compression.error.CompressionError.TheVariants.{Truncated, Magic, Block, Checksum, Unsupported, Length, Memory}

abbrev pub error_of_lz4 : Lz4Error → CompressionError
error_of_lz4 lz4.Truncated = Truncated
error_of_lz4 lz4.NotAFrame = Magic
error_of_lz4 lz4.InvalidOffset = Block
error_of_lz4 lz4.BlockSize = Block
error_of_lz4 lz4.HeaderChecksum = Checksum
error_of_lz4 lz4.BlockChecksum = Checksum
error_of_lz4 lz4.ContentChecksum = Checksum
error_of_lz4 lz4.SkippableFrame = Unsupported
error_of_lz4 lz4.UnsupportedVersion = Unsupported
error_of_lz4 lz4.ReservedBits = Unsupported
error_of_lz4 lz4.DictionaryId = Unsupported
error_of_lz4 lz4.TooLong = Length
error_of_lz4 lz4.ContentSize = Length
error_of_lz4 lz4.TrailingBytes = Length
error_of_lz4 lz4.Memory = Memory

abbrev pub error_of_zstd : ZstdError → CompressionError
error_of_zstd zstandard.Truncated = Truncated
error_of_zstd zstandard.NotAFrame = Magic
error_of_zstd zstandard.BlockType = Block
error_of_zstd zstandard.BlockSize = Block
error_of_zstd zstandard.FseTable = Block
error_of_zstd zstandard.HuffmanTable = Block
error_of_zstd zstandard.NoTable = Block
error_of_zstd zstandard.Bitstream = Block
error_of_zstd zstandard.Literals = Block
error_of_zstd zstandard.Sequences = Block
error_of_zstd zstandard.Offset = Block
error_of_zstd zstandard.ContentChecksum = Checksum
error_of_zstd zstandard.ReservedBit = Unsupported
error_of_zstd zstandard.DictionaryId = Unsupported
error_of_zstd zstandard.WindowSize = Unsupported
error_of_zstd zstandard.TooLong = Length
error_of_zstd zstandard.ContentSize = Length
error_of_zstd zstandard.Memory = Memory
