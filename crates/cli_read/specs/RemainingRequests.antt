-- What a request prints after some rows.
use Rattle.std.specs.Prelude.{ℕ, ◌-◌, ◌≤◌, Bool, true, [], ◌∷◌, length, Option, Some, None}
use Rattle.ipc_schema.specs.Schemas.{SchemaModel}
use Rattle.ipc.specs.Streams.{RecordBatchTree}
use Rattle.cli_args.specs.Requests.{RequestTree, columns, rows, all, slice, indices, where_true}
use Rattle.cli_rows.specs.RowOrder.{IsInRowOrder, is_complete_selection, remaining_selection}
use Rattle.cli_rows.specs.Tables.{TableTree, record_rows}

-- selected rows are in row order
abbrev pub IsRequestInRowOrder : RequestTree → Type 0
IsRequestInRowOrder columns = Unit {0}
IsRequestInRowOrder (rows c) = IsInRowOrder c

-- the number of rows of a table
abbrev pub table_row_count : TableTree → ℕ
table_row_count t = length (record_rows t)

-- no further record batch is needed: the schema is printed, or the slice has all its rows
abbrev pub HasRequestedRows : RequestTree → TableTree → Type 0
HasRequestedRows columns t = Unit {0}
HasRequestedRows (rows (slice o n)) t = n ≤ table_row_count t - o
HasRequestedRows (rows all) t = ⊥
HasRequestedRows (rows (where_true condition)) t = ⊥
HasRequestedRows (rows (indices wanted)) t = ⊥

-- what is printed after so many rows
abbrev pub remaining_request : RequestTree → ℕ → RequestTree
remaining_request columns k = columns
remaining_request (rows c) k = rows (remaining_selection c k)

-- nothing more is printed
abbrev pub is_complete_request : RequestTree → Bool
is_complete_request columns = true
is_complete_request (rows c) = is_complete_selection c

-- one record batch, or none, as a table of a schema
abbrev pub batch_table : SchemaModel → Option RecordBatchTree → TableTree
batch_table s None = record { schema = s; batches = [] }
batch_table s (Some batch) = record { schema = s; batches = batch ∷ [] }
