use Rattle.std.specs.Option.{option_map}
use Rattle.ipc_schema.specs.Projections.{projection_of}
use Rattle.ipc_io.specs.Seeks.{bytes_of}
use Rattle.cli_read.specs.Counts.{metadata_contents}
use Rattle.cli_read.specs.Decoded.{stream_contents}
use Rattle.cli_read.specs.Readers.{reader_schema, remaining_batches}
use Rattle.cli_read.proofs.InputSchemas.{metadata-schema, reader-schema}
use Rattle.cli_read.proofs.schema.open_schema.Goals as goal

pub returns-in-Ok-clause-schema : goal.returns-in-Ok-clause-schema
returns-in-Ok-clause-schema g c =
    let remaining = g.R.Read.remaining in
    let picks = projection_of c.args.columns in
    let r = c.in-Ok.reader in
    rw c.in-Stream.is (reader-schema picks (option_map (stream_contents picks) (remaining c.in-Stream.device)) (reader_schema r) (remaining_batches remaining g.R.Seek.stream_position g.R.Seek.stream_bytes r) c.in-Ok.ensures.opened c.in-Ok.ensures.names)

pub returns-in-Ok-open_metadata-clause-schema : goal.returns-in-Ok-open_metadata-clause-schema
returns-in-Ok-open_metadata-clause-schema g c =
    let position = g.R.Seek.stream_position in
    let bytes = g.R.Seek.stream_bytes in
    let picks = projection_of c.args.columns in
    rw c.in-File.is (metadata-schema position bytes picks (option_map (metadata_contents picks) (bytes_of position bytes c.in-File.device)) c.in-Ok-open_metadata.reader c.in-Ok-open_metadata.ensures.opened c.in-Ok-open_metadata.ensures.names)
