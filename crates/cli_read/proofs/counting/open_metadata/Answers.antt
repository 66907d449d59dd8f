use Rattle.std.proofs.Common.{◌≡◌, ◌∙◌, Some, None, ap, map, sym}
use Rattle.std.specs.Option.{option_map}
use Rattle.nest_memory.specs.TypeOf.{field_of}
use Rattle.ipc_schema.specs.Projections.{projection_of}
use Rattle.ipc_schema.specs.Schemas.{SchemaModel}
use Rattle.ipc_io.specs.FileReaders.{bytes_of}
use Rattle.cli_rows.specs.ColumnNames.{unknown_projected_name}
use Rattle.cli_read.specs.Counts.{metadata_contents}
use Rattle.cli_read.proofs.Counted.{metadata-name-unknown, metadata-names, metadata-opened}
use Rattle.cli_read.proofs.counting.open_metadata.Goals as goal

pub returns-in-None-clause-opened : goal.returns-in-None-clause-opened
returns-in-None-clause-opened g c = metadata-opened g.R.Seek.stream_position g.R.Seek.stream_bytes (projection_of c.args.columns) c.args.device c.in-Ok.reader c.in-Ok.ensures

pub returns-in-None-clause-names : goal.returns-in-None-clause-names
returns-in-None-clause-names g c =
    let position = g.R.Seek.stream_position in
    let bytes = g.R.Seek.stream_bytes in
    let picks = projection_of c.args.columns in
    let r = c.in-Ok.reader in
    let is : None ≡ unknown_projected_name picks r.schema.fields =
    c.in-None.ensures ∙ ap (λ fs. unknown_projected_name picks (map field_of fs)) c.deref.ensures.value ∙ ap (λ (z : SchemaModel). unknown_projected_name picks z.fields) c.schema.ensures in
    metadata-names position bytes picks (option_map (metadata_contents picks) (bytes_of position bytes c.args.device)) r (metadata-opened position bytes picks c.args.device r c.in-Ok.ensures) (sym is)

pub returns-in-Some-clause-error : goal.returns-in-Some-clause-error
returns-in-Some-clause-error g c =
    let position = g.R.Seek.stream_position in
    let bytes = g.R.Seek.stream_bytes in
    let picks = projection_of c.args.columns in
    let r = c.in-Ok.reader in
    let is : Some c.in-Some.name ≡ unknown_projected_name picks r.schema.fields =
    c.in-Some.ensures ∙ ap (λ fs. unknown_projected_name picks (map field_of fs)) c.deref.ensures.value ∙ ap (λ (z : SchemaModel). unknown_projected_name picks z.fields) c.schema.ensures in
    metadata-name-unknown position bytes picks (option_map (metadata_contents picks) (bytes_of position bytes c.args.device)) r c.in-Some.name (metadata-opened position bytes picks c.args.device r c.in-Ok.ensures) (sym is)
