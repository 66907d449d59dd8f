use Rattle.std.proofs.Common.{[], ◌∷◌, Ok, Option, subst, sym, ◌∙◌}
use Rattle.std.specs.Option.{option_map}
use Rattle.ipc_schema.specs.Schemas.{SchemaModel, schema_of}
use Rattle.nest_model.specs.Layout.{Layout}
use Rattle.nest_array.specs.Seen.{layout_of}
use Rattle.cli_rows.specs.Rows.{rows_of}
use Rattle.ipc.specs.declared.batch.Batch.{Batch}
use Rattle.ipc.specs.Streams.{record_batch_of}
use Rattle.cli_rows.specs.Compared.{IsRowsError}
use Rattle.cli_rows.specs.SelectedTables.{AreRowsOf}
use Rattle.cli_rows.proofs.SelectedBatches.{batch-each}
use Rattle.cli_read.specs.Remaining.{ReturnsNext}
use Rattle.cli_read.specs.RowBuffers.{table_of_batches}
use Rattle.cli_read.specs.Readers.{remaining_batches, reader_schema}
use Rattle.cli_read.proofs.BufferSteps.{fails-alone}
use Rattle.cli_read.proofs.rows.next_rows.Goals as goal

pub returns-in-Err-row_array-clause-error : goal.returns-in-Err-row_array-clause-error
returns-in-Err-row_array-clause-error g c =
    let left = remaining_batches g.R.Read.remaining g.R.Seek.stream_position g.R.Seek.stream_bytes in
    let b = record_batch_of c.in-Ok-Some.batch in
    let error = c.in-Err-row_array.error in
    let came = subst (λ (n : Option Batch). ReturnsNext (left c.args.reader.now) (left c.next_batch.new.self) (option_map record_batch_of n)) c.in-Ok-Some.field-0-is c.in-Ok-Some.ensures.next in
    fails-alone error (reader_schema c.args.reader.now) (left c.args.reader.now) (left c.next_batch.new.self) b came
    (subst (λ (z : SchemaModel). IsRowsError error (Ok (table_of_batches z (b ∷ [])))) (c.schema.ensures ∙ c.in-Ok-Some.ensures.schema) c.in-Err-row_array.ensures.error)

pub returns-in-Ok-clause-each : goal.returns-in-Ok-clause-each
returns-in-Ok-clause-each g c =
    let b = record_batch_of c.in-Ok-Some.batch in
    let rows = c.in-Ok.rows in
    let s = schema_of c.schema.result.now in
    subst (λ (z : SchemaModel). AreRowsOf z.fields (rows_of (layout_of rows))) (c.schema.ensures ∙ c.in-Ok-Some.ensures.schema)
    (subst (λ (a : Layout). AreRowsOf s.fields (rows_of a)) (sym c.in-Ok.ensures.rows) (batch-each s.fields b))
