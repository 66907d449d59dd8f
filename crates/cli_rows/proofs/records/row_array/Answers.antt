use Rattle.std.proofs.Common.{◌<◌, ap, length, map, subst, sym, ◌∙◌}
use Rattle.nest_memory.specs.TypeOf.{field_of}
use Rattle.nest_model.specs.Fits.{Fits}
use Rattle.ipc.specs.Streams.{record_batch_of}
use Rattle.ipc_schema.specs.Schemas.{schema_of}
use Rattle.cli_rows.specs.Records.{column_layouts, record_type, records}
use Rattle.cli_rows.specs.RowErrors.{IsRowError}
use Rattle.cli_rows.proofs.BatchArrays.{no-column, unmade, with-column}
use Rattle.cli_rows.proofs.SelectedBatches.{no-fields, some-fields}
use Rattle.cli_rows.proofs.records.row_array.Goals as goal

pub returns-then-is_empty-clause-rows : goal.returns-then-is_empty-clause-rows
returns-then-is_empty-clause-rows c =
    c.columnless_array-array.ensures ∙ no-column (schema_of c.args.schema.now).fields (record_batch_of c.args.batch) (ap (λ fs. length (map field_of fs)) (sym c.as_slice-fields.ensures.value) ∙ no-fields field_of c.as_slice-fields.result.now c.if-is_empty.ensures)

pub returns-in-Ok-clause-rows : goal.returns-in-Ok-clause-rows
returns-in-Ok-clause-rows c =
    let some = subst (λ fs. 0 < length (map field_of fs)) c.as_slice-fields.ensures.value (some-fields field_of c.as_slice-fields.result.now c.if-is_empty.ensures) in
    c.in-Ok.ensures.made
    ∙ ap (λ fs. records (record_type (map field_of fs)) (column_layouts c.args.batch.columns.items)) c.as_slice-fields.ensures.value
    ∙ with-column (schema_of c.args.schema.now).fields (record_batch_of c.args.batch) some

pub returns-in-Err-clause-error : goal.returns-in-Err-clause-error
returns-in-Err-clause-error c =
    let some = subst (λ fs. 0 < length (map field_of fs)) c.as_slice-fields.ensures.value (some-fields field_of c.as_slice-fields.result.now c.if-is_empty.ensures) in
    unmade c.in-Err.error (schema_of c.args.schema.now) (record_batch_of c.args.batch) some
    (subst (λ fs. IsRowError c.in-Err.error (Fits (records (record_type (map field_of fs)) (column_layouts c.args.batch.columns.items)))) c.as_slice-fields.ensures.value c.in-Err.ensures.error)
