use Rattle.std.proofs.Common.{◌≡◌, ◌∙◌, Some, None, ap, map, sym}
use Rattle.nest_memory.specs.TypeOf.{field_of}
use Rattle.ipc_schema.specs.Projections.{projection_of}
use Rattle.ipc_schema.specs.Schemas.{SchemaModel}
use Rattle.cli_rows.specs.ColumnNames.{unknown_projected_name}
use Rattle.cli_read.specs.Inputs.{decoded_input}
use Rattle.cli_read.specs.Readers.{reader_schema, remaining_batches}
use Rattle.cli_read.proofs.ProjectedNames.{name-unknown, names-known, unread}
use Rattle.cli_read.proofs.Readers.{fresh}
use Rattle.cli_read.proofs.reader.open.Goals as goal

pub returns-in-Err-clause-error : goal.returns-in-Err-clause-error
returns-in-Err-clause-error g c =
    let picks = projection_of c.args.columns in
    let x = decoded_input g.R.Read.remaining g.R.Seek.stream_position g.R.Seek.stream_bytes picks c.args.input in
    unread picks c.in-Err.error x c.in-Err.ensures.error

pub returns-in-None-clause-names : goal.returns-in-None-clause-names
returns-in-None-clause-names g c =
    let picks = projection_of c.args.columns in
    let x = decoded_input g.R.Read.remaining g.R.Seek.stream_position g.R.Seek.stream_bytes picks c.args.input in
    let r = c.in-Ok.reader in
    let left = remaining_batches g.R.Read.remaining g.R.Seek.stream_position g.R.Seek.stream_bytes in
    let is : None ≡ unknown_projected_name picks (reader_schema r).fields =
    c.in-None.ensures ∙ ap (λ fs. unknown_projected_name picks (map field_of fs)) c.deref.ensures.value ∙ ap (λ (z : SchemaModel). unknown_projected_name picks z.fields) c.schema.ensures in
    names-known picks x (reader_schema r) (left r) c.in-Ok.ensures.opened (fresh g.R.Read.remaining g.R.Seek.stream_position g.R.Seek.stream_bytes r) (sym is)

pub returns-in-Some-clause-error : goal.returns-in-Some-clause-error
returns-in-Some-clause-error g c =
    let picks = projection_of c.args.columns in
    let x = decoded_input g.R.Read.remaining g.R.Seek.stream_position g.R.Seek.stream_bytes picks c.args.input in
    let r = c.in-Ok.reader in
    let left = remaining_batches g.R.Read.remaining g.R.Seek.stream_position g.R.Seek.stream_bytes in
    let is : Some c.in-Some.name ≡ unknown_projected_name picks (reader_schema r).fields =
    c.in-Some.ensures ∙ ap (λ fs. unknown_projected_name picks (map field_of fs)) c.deref.ensures.value ∙ ap (λ (z : SchemaModel). unknown_projected_name picks z.fields) c.schema.ensures in
    name-unknown picks x (reader_schema r) (left r) c.in-Some.name c.in-Ok.ensures.opened (fresh g.R.Read.remaining g.R.Seek.stream_position g.R.Seek.stream_bytes r) (sym is)
