use Rattle.std.proofs.Common.{◌≡◌, ◌∙◌, List, Some, ap, map, sym}
use Rattle.std.specs.List.{flat_map}
use Rattle.nest_array.specs.Seen.{layout_of}
use Rattle.ipc_schema.specs.Schemas.{schema_of}
use Rattle.cli_rows.specs.Selection.{selected_rows}
use Rattle.cli_rows.specs.Rows.{RowSlot, rows_of}
use Rattle.cli_rows.specs.Compared.{table_rows}
use Rattle.cli_rows.specs.Tables.{table_of}
use Rattle.cli_args.specs.Requests.{indices}
use Rattle.cli_read.specs.TakeStates.{HasTakenFrom}
use Rattle.cli_read.proofs.TakeSteps.{if-ok}
use Rattle.cli_read.proofs.by_index.rows.finish.Goals as goal

pub table_of_rows-requires : goal.table_of_rows-requires
table_of_rows-requires c = (c.in-Ok.ensures.rows (schema_of c.args.schema.now).fields c.requires.taken.0 c.requires.same c.requires.taken.1).1

pub returns-in-Ok-clause-rows : goal.returns-in-Ok-clause-rows
returns-in-Ok-clause-rows c =
    let fs = (schema_of c.args.schema.now).fields in
    let wanted = c.args.wanted.now in
    let out = flat_map rows_of (map layout_of c.in-Ok.rows.items) in
    if-ok c.table_of_rows.result (λ held. table_rows (table_of held) ≡ out) (λ held. (rows : List RowSlot) → HasTakenFrom fs rows c.args.state.now → selected_rows (indices wanted) rows ≡ Some (table_rows (table_of held)))
    (λ held is rows took. (c.in-Ok.ensures.rows fs rows c.requires.same took).0 ∙ ap Some (sym is)) c.table_of_rows.ensures.rows
