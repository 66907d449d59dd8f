use Rattle.std.proofs.Common.{◌≡◌, ◌∙◌, [], ◌∷◌, ◌++◌, None, Some, ap, append-nil, map, subst, sym}
use Rattle.std.proofs.lemmas.Result.{IfErr-weaker, IfOk-weaker}
use Rattle.std.specs.List.{flat_map}
use Rattle.nest_array.specs.Seen.{layout_of}
use Rattle.nest_memory.specs.TypeOf.{field_of}
use Rattle.nest_memory.specs.TypeTree.{FieldTree}
use Rattle.ipc.specs.Streams.{record_batch_of}
use Rattle.ipc_schema.specs.Schemas.{schema_of}
use Rattle.cli_args.specs.RequestTrees.{selection_tree}
use Rattle.cli_rows.specs.ColumnNames.{spec_selection_error}
use Rattle.cli_rows.specs.Rows.{RowSlot, rows_of}
use Rattle.cli_rows.specs.SelectedTables.{AreRowsOf, batch_rows}
use Rattle.cli_rows.specs.Selection.{selected_rows}
use Rattle.cli_rows.proofs.SelectedBatches.{held-each}
use Rattle.cli_write.proofs.Lists.{column-fails, index-fails, rows-alone, rows-fail}
use Rattle.cli_write.proofs.batch.selected_rows_of.Goals as goal

pub returns-in-Some-clause-error : goal.returns-in-Some-clause-error
returns-in-Some-clause-error c =
    let d = selection_tree c.args.selection.now in
    column-fails c.in-Some.error d (map field_of c.args.schema.now.fields.items) (record_batch_of c.args.batch ∷ []) (ap (λ fs. spec_selection_error d (map field_of fs)) (sym c.deref.ensures.value) ∙ sym c.in-Some.ensures)

pub returns-in-Err-clause-error : goal.returns-in-Err-clause-error
returns-in-Err-clause-error c = rows-fail c.in-Err.error (selection_tree c.args.selection.now) (schema_of c.args.schema.now) (record_batch_of c.args.batch) c.in-Err.ensures.error

pub selected_batches-batches-requires : goal.selected_batches-batches-requires
selected_batches-batches-requires c =
    let fs = map field_of c.args.schema.now.fields.items in
    let b = record_batch_of c.args.batch in
    let rows = rows-alone c.from_ref-rows.result.now c.in-Ok.array fs b c.from_ref-rows.ensures.value c.in-Ok.ensures.rows in
    let them = flat_map rows_of (map layout_of c.from_ref-rows.result.now) in
    subst (λ gs. AreRowsOf (map field_of gs) them) (sym c.deref-in-Ok.ensures.value)
    (subst (λ rs. AreRowsOf fs rs) (sym rows) (held-each fs (b ∷ [])))

pub returns-in-Ok-clause-rows : goal.returns-in-Ok-clause-rows
returns-in-Ok-clause-rows c =
    let d = selection_tree c.args.selection.now in
    let fs = map field_of c.args.schema.now.fields.items in
    let b = record_batch_of c.args.batch in
    let rows = rows-alone c.from_ref-rows.result.now c.in-Ok.array fs b c.from_ref-rows.ensures.value c.in-Ok.ensures.rows in
    IfOk-weaker c.selected_batches-batches.result _ _
    (λ v h. ap (selected_rows d) (sym rows) ∙ h ∙ ap (λ gs. Some (batch_rows (map field_of gs) (map record_batch_of v.items))) c.deref-in-Ok.ensures.value)
    c.selected_batches-batches.ensures.rows

pub returns-in-Ok-clause-error : goal.returns-in-Ok-clause-error
returns-in-Ok-clause-error c =
    let d = selection_tree c.args.selection.now in
    let fs = map field_of c.args.schema.now.fields.items in
    let b = record_batch_of c.args.batch in
    let rows = rows-alone c.from_ref-rows.result.now c.in-Ok.array fs b c.from_ref-rows.ensures.value c.in-Ok.ensures.rows in
    IfErr-weaker c.selected_batches-batches.result _ _
    (λ e h. index-fails e d fs (b ∷ []) (flat_map rows_of (map layout_of c.from_ref-rows.result.now)) rows h)
    c.selected_batches-batches.ensures.error
