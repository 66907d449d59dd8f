-- Schemas of opened inputs.
use Rattle.std.proofs.Common.{◌≡◌, ℕ, List, [], Option, Some, None, Result, Ok, Err, refl, sym, ap, subst}
use Rattle.std.specs.Option.{option_map}
use Rattle.ipc_flatbuf.specs.declared.error.IpcReadError.{IpcReadError}
use Rattle.ipc_schema.specs.Projections.{ProjectionModel}
use Rattle.ipc_schema.specs.Schemas.{SchemaModel}
use Rattle.ipc.specs.Streams.{RecordBatchTree}
use Rattle.ipc_io.specs.FileMetadata.{MetadataReaderTree, row_counts_at}
use Rattle.ipc_io.specs.Seeks.{bytes_of}
use Rattle.cli_rows.specs.ColumnNames.{unknown_projected_name}
use Rattle.cli_rows.specs.Output.{HasTable}
use Rattle.cli_rows.specs.Tables.{TableTree}
use Rattle.cli_read.specs.Counts.{batches_of_counts}
use Rattle.cli_read.specs.CountSteps.{DecodesAlike, decoded_metadata, metadata_of_blocks}
use Rattle.cli_read.specs.Decoded.{Decoded, table_with}
use Rattle.cli_read.specs.InputSchemas.{HasSchema}
use Rattle.cli_read.specs.ProjectedNames.{HasNames}
use Rattle.cli_read.specs.Remaining.{IsOpened, Remaining}

abbrev Batches : Type 0
Batches = Result (List RecordBatchTree) IpcReadError

-- what decodes to record batches of a schema has that schema
has-schema : (picks : ProjectionModel) (x : Decoded) (s : SchemaModel) (b : Batches) → x.first 0 ≡ table_with s b → HasNames picks (Some x) → HasSchema (Some x) s
has-schema picks x s (Ok bs) is names = subst (λ (r : Result TableTree IpcReadError). HasTable r (λ t. t.schema ≡ s)) (sym is) refl
has-schema picks x s (Err error) is names = absurd (subst (λ (r : Result TableTree IpcReadError). HasTable r (λ t. unknown_projected_name picks t.schema.fields ≡ None)) is names)

pub reader-schema : (picks : ProjectionModel) (x : Option Decoded) (s : SchemaModel) (t : Option Remaining) → IsOpened x s t → HasNames picks x → HasSchema x s
reader-schema picks None s t opened names = tt
reader-schema picks (Some x) s None opened names = absurd opened
reader-schema picks (Some x) s (Some t) opened names = has-schema picks x s (t.first 0) (ap (λ (d : Decoded). d.first 0) opened) names

module _ {R : Type 0} (position : R → Option ℕ) (bytes : R → Option (List ℕ)) where
  pub metadata-schema : (picks : ProjectionModel) (x : Option Decoded) (r : MetadataReaderTree R) → DecodesAlike x (decoded_metadata position bytes r) → HasNames picks x → HasSchema x r.schema
  metadata-schema picks x r opened names = given (bytes_of position bytes r.inner) x opened names
    where
      given : (o : Option (List ℕ)) (x : Option Decoded) → DecodesAlike x (option_map (metadata_of_blocks r.schema r.blocks) o) → HasNames picks x → HasSchema x r.schema
      given o None opened names = tt
      given None (Some x) opened names = absurd opened
      given (Some xs) (Some x) opened names = has-schema picks x r.schema (batches_of_counts (row_counts_at xs [])) (ap (λ (d : Decoded). d.first 0) opened) names
