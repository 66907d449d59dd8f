use Rattle.std.proofs.Common.{◌≡◌, ◌∙◌, Some, None, ap, map, sym}
use Rattle.std.specs.Option.{option_map}
use Rattle.nest_memory.specs.TypeOf.{field_of}
use Rattle.ipc_schema.specs.Projections.{projection_of}
use Rattle.ipc_schema.specs.Schemas.{SchemaModel}
use Rattle.ipc_io.specs.FileReaders.{bytes_of}
use Rattle.cli_rows.specs.ColumnNames.{unknown_projected_name}
use Rattle.cli_read.specs.Decoded.{file_contents}
use Rattle.cli_read.specs.Remaining.{remaining_in_file}
use Rattle.cli_read.specs.declared.reader.BatchReader.TheVariants.{File}
use Rattle.cli_read.proofs.ProjectedNames.{name-unknown, names-known}
use Rattle.cli_read.proofs.Readers.{file-opened, fresh}
use Rattle.cli_read.proofs.tail.open_file.Goals as goal

pub returns-in-None-clause-names : goal.returns-in-None-clause-names
returns-in-None-clause-names g c =
    let picks = projection_of c.args.columns in
    let bytes = bytes_of g.R.Seek.stream_position g.R.Seek.stream_bytes in
    let r = c.in-Ok.reader in
    let s = r.state.picked.schema in
    let is : None ≡ unknown_projected_name picks s.fields =
    c.in-None.ensures ∙ ap (λ fs. unknown_projected_name picks (map field_of fs)) c.deref.ensures.value ∙ ap (λ (z : SchemaModel). unknown_projected_name picks z.fields) c.schema.ensures in
    names-known picks (option_map (file_contents picks) (bytes c.args.device)) s (option_map (remaining_in_file r.state r.blocks) (bytes r.inner)) (file-opened picks (bytes c.args.device) (bytes r.inner) r c.in-Ok.ensures.0 c.in-Ok.ensures.1)
    (fresh g.R.Read.remaining g.R.Seek.stream_position g.R.Seek.stream_bytes (File r 0)) (sym is)

pub returns-in-Some-clause-error : goal.returns-in-Some-clause-error
returns-in-Some-clause-error g c =
    let picks = projection_of c.args.columns in
    let bytes = bytes_of g.R.Seek.stream_position g.R.Seek.stream_bytes in
    let r = c.in-Ok.reader in
    let s = r.state.picked.schema in
    let is : Some c.in-Some.name ≡ unknown_projected_name picks s.fields =
    c.in-Some.ensures ∙ ap (λ fs. unknown_projected_name picks (map field_of fs)) c.deref.ensures.value ∙ ap (λ (z : SchemaModel). unknown_projected_name picks z.fields) c.schema.ensures in
    name-unknown picks (option_map (file_contents picks) (bytes c.args.device)) s (option_map (remaining_in_file r.state r.blocks) (bytes r.inner)) c.in-Some.name (file-opened picks (bytes c.args.device) (bytes r.inner) r c.in-Ok.ensures.0 c.in-Ok.ensures.1)
    (fresh g.R.Read.remaining g.R.Seek.stream_position g.R.Seek.stream_bytes (File r 0)) (sym is)
