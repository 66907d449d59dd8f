-- The schema of an input.
use Rattle.std.specs.Prelude.{◌≡◌, ◌⊎◌, ℕ, List, Option, Some, None}
use Rattle.ipc_schema.specs.Projections.{ProjectionModel}
use Rattle.ipc_schema.specs.Schemas.{SchemaModel}
use Rattle.cli_rows.specs.Output.{HasTable}
use Rattle.cli_rows.specs.Text.{text_of_schema}
use Rattle.cli_rows.specs.declared.error.CliError.{CliError}
use Rattle.cli_rows.specs.declared.error.CliError.TheVariants.{Memory}
use Rattle.cli_read.specs.Decoded.{Decoded}
use Rattle.cli_read.specs.ProjectedNames.{FailsToOpenColumns}
use Rattle.cli_read.specs.Readers.{reader_schema}
use Rattle.cli_read.specs.declared.schema.SchemaReader.{SchemaReader}
use Rattle.cli_read.specs.declared.schema.SchemaReader.TheVariants.{File, Stream}

abbrev pub input_schema : {R : Type 0} → SchemaReader R → SchemaModel
input_schema (Stream reader) = reader_schema reader
input_schema (File reader) = reader.schema

-- the bytes decode to this schema, whatever record batches follow
abbrev pub HasSchema : Option Decoded → SchemaModel → Type 0
HasSchema None s = Unit {0}
HasSchema (Some x) s = HasTable (x.first 0) (λ t. t.schema ≡ s)

-- this is the text of the schema
abbrev pub ShowsSchema : Option Decoded → List ℕ → Type 0
ShowsSchema x text = (s : SchemaModel) × HasSchema x s × (text ≡ text_of_schema s.fields)

-- the input was not opened, or an allocation failed
abbrev pub FailsToShowSchema : ProjectionModel → CliError → Option Decoded → Type 0
FailsToShowSchema picks error x = FailsToOpenColumns picks error x ⊎ (error ≡ Memory)
