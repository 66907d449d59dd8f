-- Inputs concatenated.
use Rattle.std.specs.Prelude.{◌≡◌, ℕ, List, map, Result, Ok}
use Rattle.std.specs.List.{AllByRecursion, flat_map}
use Rattle.ipc_flatbuf.specs.declared.error.IpcReadError as formats
use Rattle.ipc.specs.Streams.{RecordBatchTree}
use Rattle.ipc_schema.specs.Schemas.{SchemaModel}
use Rattle.cli_args.specs.declared.format.Format.{Format}
use Rattle.cli_rows.specs.Encodings.{IsEncodingOf}
use Rattle.cli_rows.specs.Tables.{TableTree}

abbrev pub DecodedTables : Type 0
DecodedTables = List (Result TableTree formats.IpcReadError)

-- the tables have this schema
abbrev pub HaveSchema : SchemaModel → List TableTree → Type 0
HaveSchema s parts = AllByRecursion (λ h. h.schema ≡ s) parts

-- the record batches of tables, one table after another
abbrev pub all_batches : List TableTree → List RecordBatchTree
all_batches parts = flat_map (λ h. h.batches) parts

-- each input was decoded, has the schema of t, and its record batches are those of t, one input after another
pub record IsConcatenation (t : TableTree) (reads : DecodedTables) : Type 0 where
  pub parts : List TableTree
  pub read : reads ≡ map Ok parts
  pub schemas : AllByRecursion (λ h. h.schema ≡ t.schema) parts
  pub batches : t.batches ≡ flat_map (λ h. h.batches) parts

-- the bytes decode to the concatenation
abbrev pub EncodesConcatenation : Format → DecodedTables → List ℕ → Type 0
EncodesConcatenation form reads bytes = (t : TableTree) × IsConcatenation t reads × IsEncodingOf form t bytes
