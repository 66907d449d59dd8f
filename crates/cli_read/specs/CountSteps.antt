-- Steps of counting the rows of an input.
use Rattle.std.specs.Prelude.{◌≡◌, ◌+◌, ℕ, List, take, Option, Some, None, IsOk}
use Rattle.std.specs.Option.{option_map}
use Rattle.ipc_schema.specs.Projections.{ProjectionModel}
use Rattle.ipc_schema.specs.Schemas.{SchemaModel}
use Rattle.ipc_schema.specs.declared.footer.types.Block.{Block}
use Rattle.ipc_io.specs.FileMetadata.{MetadataReaderTree, row_counts_at}
use Rattle.ipc_io.specs.Seeks.{bytes_of}
use Rattle.cli_rows.specs.declared.error.BatchError.{BatchError}
use Rattle.cli_rows.specs.declared.error.CliError.{CliError}
use Rattle.cli_read.specs.Counts.{Counts, batches_of_counts, metadata_contents}
use Rattle.cli_read.specs.Decoded.{Decoded, table_with}
use Rattle.cli_read.specs.Readers.{decoded_reader}
use Rattle.cli_read.specs.Remaining.{IsReadErrorOf}
use Rattle.cli_read.specs.declared.reader.BatchReader.{BatchReader}

-- this record batch was not read, and those before it decode
abbrev pub IsErrorIn : Decoded → Option ℕ → CliError → Type 0
IsErrorIn s None error = ⊥
IsErrorIn s (Some k) error = IsReadErrorOf error (s.first (k + 1)) × IsOk (s.first k)

abbrev pub FailsIn : Option Decoded → BatchError → Type 0
FailsIn None stop = Unit {0}
FailsIn (Some s) stop = IsErrorIn s stop.batch stop.error

-- both decode alike, if the bytes of the first are known
abbrev pub DecodesAlike : Option Decoded → Option Decoded → Type 0
DecodesAlike None new = Unit {0}
DecodesAlike (Some old) None = ⊥
DecodesAlike (Some old) (Some new) = old ≡ new

-- the metadata of these blocks
abbrev pub metadata_of_blocks : SchemaModel → List Block → List ℕ → Decoded
metadata_of_blocks s blocks bytes = record {
  first = λ k. table_with s (batches_of_counts (row_counts_at bytes (take k blocks)));
  whole = table_with s (batches_of_counts (row_counts_at bytes blocks));
}

module _ {R : Type 0} (position : R → Option ℕ) (bytes : R → Option (List ℕ)) where
  abbrev pub decoded_metadata : MetadataReaderTree R → Option Decoded
  decoded_metadata r = option_map (metadata_of_blocks r.schema r.blocks) (bytes_of position bytes r.inner)

  -- the reader has the metadata of a file
  abbrev pub OpensMetadataOf : ProjectionModel → R → MetadataReaderTree R → Type 0
  OpensMetadataOf picks device r = DecodesAlike (option_map (metadata_contents picks) (bytes_of position bytes device)) (decoded_metadata r)

  abbrev pub CountsMetadata : MetadataReaderTree R → ℕ → Type 0
  CountsMetadata r n = Counts (decoded_metadata r) n

  abbrev pub FailsToCountMetadata : MetadataReaderTree R → BatchError → Type 0
  FailsToCountMetadata r stop = FailsIn (decoded_metadata r) stop

module _ {R : Type 0} (remaining : R → Option (List ℕ)) (position : R → Option ℕ) (bytes : R → Option (List ℕ)) where
  -- the number of rows of the remaining record batches
  abbrev pub CountsBatches : BatchReader R → ℕ → Type 0
  CountsBatches reader n = Counts (decoded_reader remaining position bytes reader) n

  abbrev pub FailsToCountBatches : BatchReader R → BatchError → Type 0
  FailsToCountBatches reader stop = FailsIn (decoded_reader remaining position bytes reader) stop
