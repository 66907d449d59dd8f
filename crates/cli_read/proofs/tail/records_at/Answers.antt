use Rattle.std.proofs.Common.{◌≡◌, ◌∙◌, ap, subst, sym}
use Rattle.std.proofs.lemmas.Result.{IfErr-weaker, IfOk-weaker}
use Rattle.nest_array.specs.Seen.{layout_of}
use Rattle.nest_model.specs.Fits.{Fits}
use Rattle.ipc_schema.specs.Schemas.{SchemaModel, schema_of}
use Rattle.ipc.specs.Streams.{StateTree, record_batch_of}
use Rattle.cli_rows.specs.RowErrors.{IsRowError}
use Rattle.cli_rows.specs.declared.error.CliError.{CliError}
use Rattle.cli_read.specs.TailSteps.{FailsToReadRecords, batch_records_of}
use Rattle.cli_read.proofs.FileTails.{batch-fails, batch-unfit, records-at}
use Rattle.cli_read.proofs.tail.records_at.Goals as goal

pub returns-in-Err-clause-error : goal.returns-in-Err-clause-error
returns-in-Err-clause-error g c =
    let position = g.R.Seek.stream_position in
    let bytes = g.R.Seek.stream_bytes in
    let r = c.args.reader.now in
    subst (λ (error : CliError). FailsToReadRecords position bytes c.args.k r error) (sym c.from.ensures) (batch-fails position bytes c.args.k r c.in-Err.error c.requires c.in-Err.ensures.batch)

pub returns-in-Ok-clause-records : goal.returns-in-Ok-clause-records
returns-in-Ok-clause-records g c =
    let r = c.args.reader.now in
    let b = record_batch_of c.in-Ok.batch in
    let same : schema_of c.schema.result.now ≡ r.state.picked.schema = c.schema.ensures ∙ ap (λ (s : StateTree). s.picked.schema) c.in-Ok.ensures.still.0 in
    IfOk-weaker c.batch_records.result _ _ (λ a h. records-at g.R.Seek.stream_position g.R.Seek.stream_bytes c.args.k r c.in-Ok.batch (layout_of a) c.requires c.in-Ok.ensures.batch (h ∙ ap (λ (s : SchemaModel). batch_records_of s b) same)) c.batch_records.ensures.made

pub returns-in-Ok-clause-error : goal.returns-in-Ok-clause-error
returns-in-Ok-clause-error g c =
    let r = c.args.reader.now in
    let b = record_batch_of c.in-Ok.batch in
    let same : schema_of c.schema.result.now ≡ r.state.picked.schema = c.schema.ensures ∙ ap (λ (s : StateTree). s.picked.schema) c.in-Ok.ensures.still.0 in
    IfErr-weaker c.batch_records.result _ _ (λ e h. batch-unfit g.R.Seek.stream_position g.R.Seek.stream_bytes c.args.k r c.in-Ok.batch e c.requires c.in-Ok.ensures.batch (subst (λ (s : SchemaModel). IsRowError e (Fits (batch_records_of s b))) same h)) c.batch_records.ensures.error
