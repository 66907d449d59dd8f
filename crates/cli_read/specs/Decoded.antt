-- What bytes decode to if only the first record batches are read.
use Rattle.std.specs.Prelude.{ℕ, zero, suc, List, [], take, Result, Ok}
use Rattle.ipc_flatbuf.specs.ReadResults.{◌>>=◌}
use Rattle.ipc_flatbuf.specs.declared.error.IpcReadError.{IpcReadError}
use Rattle.ipc_schema.specs.Projections.{ProjectionModel}
use Rattle.ipc_schema.specs.Schemas.{SchemaModel}
use Rattle.ipc.specs.Streams.{RecordBatchTree, projected_stream_in}
use Rattle.ipc.specs.SliceStreamReaders.{SliceStreamReaderTree, before, next_of, reader_in}
use Rattle.ipc.specs.Files.{SliceFileReaderTree, batches_at, file_reader_in, projected_file_in}
use Rattle.cli_rows.specs.Tables.{TableTree, table_of_file, table_of_stream}

-- with so many record batches at most, and with all of them
pub record Decoded : Type 0 where
  pub first : ℕ → Result TableTree IpcReadError
  pub whole : Result TableTree IpcReadError

-- record batches as a table of a schema
abbrev pub table_with : SchemaModel → Result (List RecordBatchTree) IpcReadError → Result TableTree IpcReadError
table_with schema batches = batches >>= λ bs. Ok (record { schema = schema; batches = bs })

-- the first record batches of a stream, so many at most
unfoldable pub first_of_stream : ℕ → SliceStreamReaderTree → Result (List RecordBatchTree) IpcReadError
first_of_stream zero r = Ok []
first_of_stream (suc k) r = next_of r >>= λ next. before next.0 (first_of_stream k next.1)

-- those of a file
abbrev pub first_of_file : ℕ → SliceFileReaderTree → Result (List RecordBatchTree) IpcReadError
first_of_file k r = batches_at r.state r.bytes (take k r.blocks)

-- a stream from the first byte on
abbrev pub stream_contents : ProjectionModel → List ℕ → Decoded
stream_contents picks bytes = record {
  first = λ k. reader_in picks bytes >>= λ r. table_with r.state.picked.schema (first_of_stream k r);
  whole = projected_stream_in picks bytes >>= λ s. Ok (table_of_stream s);
}

-- a file
abbrev pub file_contents : ProjectionModel → List ℕ → Decoded
file_contents picks bytes = record {
  first = λ k. file_reader_in picks bytes >>= λ r. table_with r.state.picked.schema (first_of_file k r);
  whole = projected_file_in picks bytes >>= λ f. Ok (table_of_file f);
}
