-- Two record batches read one after the other.
use Rattle.std.specs.Prelude.{Option, Result, Ok}
use Rattle.ipc_flatbuf.specs.ReadResults.{◌>>=◌}
use Rattle.ipc_flatbuf.specs.declared.error.IpcReadError.{IpcReadError}
use Rattle.ipc.specs.Streams.{RecordBatchTree}
use Rattle.ipc.specs.SliceStreamReaders.{SliceStreamReaderTree, next_of}

-- the next batch of a reader, the batch after it, and the reader after both
abbrev pub next_two : SliceStreamReaderTree → Result ((Option RecordBatchTree × Option RecordBatchTree) × SliceStreamReaderTree) IpcReadError
next_two r = next_of r >>= λ first. next_of first.1 >>= λ second. Ok ((first.0, second.0), second.1)
