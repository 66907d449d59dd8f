-- What the bytes of an Arrow file or stream hold.
use Rattle.std.specs.Prelude.{Bool, List, ℕ, map, nat_eq, codes, Result, Ok, if◌then◌else◌}
use Rattle.std.specs.List.{AllByRecursion, flat_map, starts_with}
use Rattle.nest_model.specs.Fits.{Fits}
use Rattle.nest_model.specs.Layout.{Layout}
use Rattle.ipc_flatbuf.specs.ReadResults.{◌>>=◌}
use Rattle.ipc_flatbuf.specs.declared.error.IpcReadError.{IpcReadError}
use Rattle.ipc_schema.specs.Schemas.{SchemaModel, schema_of}
use Rattle.ipc_schema.specs.declared.schema.Schema.{Schema}
use Rattle.ipc_schema.specs.Projections.{ProjectionModel}
use Rattle.ipc.specs.declared.batch.Batch.{Batch}
use Rattle.ipc.specs.Streams.{RecordBatchTree, StreamTree, record_batch_of, projected_stream_in}
use Rattle.ipc.specs.Files.{FileTree, projected_file_in}
use Rattle.cli_rows.specs.Records.{record_type, records}
use Rattle.cli_rows.specs.Rows.{RowSlot, rows_of}
use Rattle.cli_rows.specs.declared.table.Table.{Table}

-- the schema, and the batches
pub record TableTree : Type 0 where
  pub schema : SchemaModel
  pub batches : List RecordBatchTree

-- a file begins with its magic, a stream never does
abbrev pub is_file_prefix : List ℕ → Bool
is_file_prefix bytes = starts_with nat_eq bytes (codes "ARROW1")

abbrev pub table_of_file : FileTree → TableTree
table_of_file f = record { schema = f.schema; batches = f.batches }

abbrev pub table_of_stream : StreamTree → TableTree
table_of_stream s = record { schema = s.schema; batches = s.batches }

-- that of a file, or that of the stream which the bytes begin with
abbrev pub decoded_table : ProjectionModel → List ℕ → Result TableTree IpcReadError
decoded_table picks bytes = if is_file_prefix bytes then (projected_file_in picks bytes >>= λ f. Ok (table_of_file f)) else (projected_stream_in picks bytes >>= λ s. Ok (table_of_stream s))

-- the columns of each batch as an array of records
abbrev pub table_records : TableTree → List Layout
table_records t = map (records (record_type t.schema.fields)) (map (λ b. b.columns) t.batches)

-- the records of all batches
abbrev pub record_rows : TableTree → List RowSlot
record_rows t = flat_map rows_of (table_records t)

-- there is a column, the columns have the types of the schema, and in each batch they are of one length
abbrev pub MatchesSchema : TableTree → Type 0
MatchesSchema t = AllByRecursion Fits (table_records t)

-- a schema and record batches of the code
abbrev pub table_of_parts : Schema → List Batch → TableTree
table_of_parts schema batches = record { schema = schema_of schema; batches = map record_batch_of batches }

-- a table of the code
abbrev pub table_of : Table → TableTree
table_of h = record { schema = schema_of h.schema; batches = map record_batch_of h.batches.items }
