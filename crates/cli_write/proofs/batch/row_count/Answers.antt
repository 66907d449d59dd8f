use Rattle.std.proofs.Common.{◌∙◌, [], ◌∷◌, ap, length, map, sym}
use Rattle.std.specs.List.{slice_get}
use Rattle.nest_memory.specs.TypeOf.{field_of}
use Rattle.ipc.specs.Streams.{record_batch_of}
use Rattle.cli_rows.specs.SelectedTables.{batch_rows}
use Rattle.cli_write.proofs.Lists.{count-bare, count-columns, first-none, first-some}
use Rattle.cli_write.proofs.batch.row_count.Goals as goal

pub returns-then-is_empty : goal.returns-then-is_empty
returns-then-is_empty c =
    count-bare field_of c.as_slice-fields.result.now (record_batch_of c.args.batch.now) c.if-is_empty.ensures
    ∙ ap (λ fs. length (batch_rows (map field_of fs) (record_batch_of c.args.batch.now ∷ []))) c.as_slice-fields.ensures.value

pub returns-in-None : goal.returns-in-None
returns-in-None c =
    first-none c.args.batch.now.columns.items (c.in-None.ensures.value ∙ ap (λ l. slice_get l 0) c.deref.ensures.value)
    ∙ count-columns field_of c.as_slice-fields.result.now (record_batch_of c.args.batch.now) c.if-is_empty.ensures
    ∙ ap (λ fs. length (batch_rows (map field_of fs) (record_batch_of c.args.batch.now ∷ []))) c.as_slice-fields.ensures.value

pub returns-in-Some : goal.returns-in-Some
returns-in-Some c =
    c.len.ensures
    ∙ first-some c.args.batch.now.columns.items c.in-Some.column.now (c.in-Some.ensures.value ∙ ap (λ l. slice_get l 0) c.deref.ensures.value)
    ∙ count-columns field_of c.as_slice-fields.result.now (record_batch_of c.args.batch.now) c.if-is_empty.ensures
    ∙ ap (λ fs. length (batch_rows (map field_of fs) (record_batch_of c.args.batch.now ∷ []))) c.as_slice-fields.ensures.value
