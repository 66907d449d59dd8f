use Rattle.ipc_flatbuf.specs.CompressionExamples.{lz4_batch, zstd_batch, unknown_codec}
use Rattle.ipc_flatbuf.proofs.batch.laws.compression_is_read.Goals as goal

pub returns-clause-lz4 : goal.returns-clause-lz4
returns-clause-lz4 c = lz4_batch

pub returns-clause-zstd : goal.returns-clause-zstd
returns-clause-zstd c = zstd_batch

pub returns-clause-unknown : goal.returns-clause-unknown
returns-clause-unknown c = unknown_codec
