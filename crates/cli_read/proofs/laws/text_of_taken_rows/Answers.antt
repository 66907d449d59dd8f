use Rattle.std.proofs.Common.{◌∙◌, ◌<◌, Some, ap, length, subst, sym}
use Rattle.std.specs.List.{flat_map}
use Rattle.std.specs.Option.{option_map}
use Rattle.ipc_schema.specs.Schemas.{SchemaModel}
use Rattle.cli_rows.specs.Selection.{selected_rows}
use Rattle.cli_rows.specs.Rows.{rows_of}
use Rattle.cli_rows.specs.Text.{text_of_rows}
use Rattle.cli_rows.proofs.BatchArrays.{with-columns}
use Rattle.cli_args.specs.Requests.{indices}
use Rattle.cli_read.proofs.laws.text_of_taken_rows.Goals as goal

pub returns : goal.returns
returns c = λ wanted h t text some selected said.
    let some_of_t = subst (λ (s : SchemaModel). 0 < length s.fields) (sym selected.0) some in
    ap (λ ls. option_map text_of_rows (selected_rows (indices wanted) (flat_map rows_of ls))) (with-columns h.schema.fields h.batches some)
    ∙ ap (option_map text_of_rows) selected.1
    ∙ sym (ap (λ ls. Some (text_of_rows (flat_map rows_of ls))) (with-columns t.schema.fields t.batches some_of_t))
    ∙ said
