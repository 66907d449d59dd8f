-- Tables encoded in a format.
use Rattle.std.specs.Prelude.{◌≡◌, ◌++◌, ℕ, List, length, Option, Ok}
use Rattle.ipc_flatbuf.specs.declared.error.IpcWriteError.{IpcWriteError}
use Rattle.ipc.specs.Streams.{RecordBatchTree, stream_in}
use Rattle.ipc.specs.Files.{file_in}
use Rattle.ipc.specs.EncodedStreams.{AreSameBatches, decoded_batches, decoded_stream, stream_error}
use Rattle.ipc.specs.EncodedFiles.{file_error, decoded_file}
use Rattle.cli_args.specs.declared.format.Format.{Format}
use Rattle.cli_args.specs.declared.format.Format.TheVariants.{File, Stream}
use Rattle.cli_rows.specs.Tables.{TableTree}

-- what bytes of a format decode to: the schema, and the record batches without validity bitmaps of columns that have no null
abbrev pub DecodesToTable : Format → TableTree → List ℕ → Type 0
DecodesToTable File t bytes = file_in bytes ≡ Ok (decoded_file t.schema t.batches)
DecodesToTable Stream t bytes = (rest : List ℕ) → stream_in (bytes ++ rest) ≡ Ok (decoded_stream t.schema t.batches (length bytes))

-- the record batches as they are decoded
abbrev pub decoded_table_batches : Format → TableTree → List RecordBatchTree
decoded_table_batches File t = (decoded_file t.schema t.batches).batches
decoded_table_batches Stream t = decoded_batches t.batches

-- the bytes decode to an equal schema and, of each record batch, equal rows and arrays
abbrev pub IsEncodingOf : Format → TableTree → List ℕ → Type 0
IsEncodingOf form t bytes = DecodesToTable form t bytes × AreSameBatches t.batches (decoded_table_batches form t)

-- the first reason why it cannot be written
abbrev pub write_refusal : Format → TableTree → Option IpcWriteError
write_refusal File t = file_error t.schema t.batches
write_refusal Stream t = stream_error t.schema t.batches
