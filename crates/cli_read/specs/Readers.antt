-- The schema and the remaining record batches of a reader.
use Rattle.std.specs.Prelude.{ℕ, List, drop, Option}
use Rattle.std.specs.Option.{option_map}
use Rattle.ipc_schema.specs.Schemas.{SchemaModel}
use Rattle.ipc_io.specs.FileReaders.{bytes_of}
use Rattle.ipc_io.specs.StreamReaders.{StreamReaderTree, as_slice_reader}
use Rattle.ipc_schema.specs.Projections.{ProjectionModel}
use Rattle.ipc.specs.Streams.{RecordBatchTree}
use Rattle.cli_read.specs.Decoded.{Decoded}
use Rattle.cli_read.specs.Inputs.{decoded_input}
use Rattle.cli_read.specs.Remaining.{IsOpened, Remaining, ReturnsNext, remaining_in_file, remaining_in_stream, with_schema}
use Rattle.cli_read.specs.declared.input.Input.{Input}
use Rattle.cli_read.specs.declared.reader.BatchReader.{BatchReader}
use Rattle.cli_read.specs.declared.reader.BatchReader.TheVariants.{File, Stream}

abbrev pub reader_schema : {R : Type 0} → BatchReader R → SchemaModel
reader_schema (Stream reader) = reader.state.picked.schema
reader_schema (File reader k) = reader.state.picked.schema

-- the remaining record batches of a stream
abbrev pub remaining_of_stream : {R : Type 0} → (R → Option (List ℕ)) → StreamReaderTree R → Option Remaining
remaining_of_stream remaining reader = option_map remaining_in_stream (as_slice_reader remaining reader)

module _ {R : Type 0} (remaining : R → Option (List ℕ)) (place : R → Option ℕ) (bytes : R → Option (List ℕ)) where
  abbrev pub remaining_batches : BatchReader R → Option Remaining
  remaining_batches (Stream reader) = option_map remaining_in_stream (as_slice_reader remaining reader)
  remaining_batches (File reader k) = option_map (remaining_in_file reader.state (drop k reader.blocks)) (bytes_of place bytes reader.inner)

  -- the reader has the schema and the record batches of an input
  abbrev pub IsReaderOf : ProjectionModel → Input R → BatchReader R → Type 0
  IsReaderOf picks input reader = IsOpened (decoded_input remaining place bytes picks input) (reader_schema reader) (remaining_batches reader)

  -- this is the next record batch, or there is none
  abbrev pub ReturnsBatch : BatchReader R → BatchReader R → Option RecordBatchTree → Type 0
  ReturnsBatch old new batch = ReturnsNext (remaining_batches old) (remaining_batches new) batch

  -- what the remaining record batches decode to
  abbrev pub decoded_reader : BatchReader R → Option Decoded
  decoded_reader reader = option_map (with_schema (reader_schema reader)) (remaining_batches reader)
