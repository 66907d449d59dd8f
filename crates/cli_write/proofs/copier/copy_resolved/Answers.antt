use Rattle.nest_memory.specs.TypeOf.{field_of}
use Rattle.std.proofs.Common.{map, [], None, ◌≡◌, ◌∙◌, ap, sym, subst}
use Rattle.ipc_schema.specs.Schemas.{SchemaModel}
use Rattle.ipc.specs.EncodedStreams.{schema_error}
use Rattle.cli_rows.specs.ColumnNames.{spec_selection_error}
use Rattle.cli_read.specs.Readers.{remaining_batches, reader_schema}
use Rattle.cli_read.proofs.Readers.{fresh}
use Rattle.cli_args.specs.RequestTrees.{selection_tree}
use Rattle.cli_write.specs.Writers.{FailsSchema, HasWritten}
use Rattle.cli_write.proofs.CopySteps.{begun, no-column, unbegun}
use Rattle.cli_write.proofs.copier.copy_resolved.Goals as goal

pub returns-in-Some : goal.returns-in-Some
returns-in-Some g c =
    let d = selection_tree c.args.left in
    let s = reader_schema c.args.reader in
    let t = remaining_batches g.R.Read.remaining g.R.Seek.stream_position g.R.Seek.stream_bytes c.args.reader in
    no-column g.W.Write.contents c.args.format d s t c.args.out c.in-Some.error (fresh g.R.Read.remaining g.R.Seek.stream_position g.R.Seek.stream_bytes c.args.reader)
    (ap (λ (x : SchemaModel). spec_selection_error d x.fields) (sym c.schema.ensures) ∙ ap (λ fs. spec_selection_error d (map field_of fs)) (sym c.deref.ensures.value) ∙ sym c.in-Some.ensures)

pub returns-in-Err : goal.returns-in-Err
returns-in-Err g c =
    let d = selection_tree c.args.left in
    let s = reader_schema c.args.reader in
    let t = remaining_batches g.R.Read.remaining g.R.Seek.stream_position g.R.Seek.stream_bytes c.args.reader in
    let column : spec_selection_error d s.fields ≡ None = ap (λ (x : SchemaModel). spec_selection_error d x.fields) (sym c.schema.ensures) ∙ ap (λ fs. spec_selection_error d (map field_of fs)) (sym c.deref.ensures.value) ∙ sym c.in_default.ensures in
    unbegun g.W.Write.contents c.args.format d s t c.args.out c.in-Err.error (fresh g.R.Read.remaining g.R.Seek.stream_position g.R.Seek.stream_bytes c.args.reader) c.requires column (subst (λ (x : SchemaModel). FailsSchema c.in-Err.error (schema_error x)) c.schema-2.ensures c.in-Err.ensures.error)

pub returns-in-Ok : goal.returns-in-Ok
returns-in-Ok g c =
    let d = selection_tree c.args.left in
    let s = reader_schema c.args.reader in
    let t = remaining_batches g.R.Read.remaining g.R.Seek.stream_position g.R.Seek.stream_bytes c.args.reader in
    let column : spec_selection_error d s.fields ≡ None = ap (λ (x : SchemaModel). spec_selection_error d x.fields) (sym c.schema.ensures) ∙ ap (λ fs. spec_selection_error d (map field_of fs)) (sym c.deref.ensures.value) ∙ sym c.in_default.ensures in
    c.copy_batches.ensures c.args.format t c.args.out
    (begun g.W.Write.contents c.args.format d s t c.args.out [] c.in-Ok.writer (fresh g.R.Read.remaining g.R.Seek.stream_position g.R.Seek.stream_bytes c.args.reader) c.requires column (subst (λ (x : SchemaModel). HasWritten g.W.Write.contents c.args.format c.args.out x [] c.in-Ok.writer) c.schema-2.ensures c.in-Ok.ensures.begun))
