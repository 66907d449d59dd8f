use Rattle.std.proofs.Common.{◌∙◌, ◌++◌, [], map, take, sym, ap, subst, arith}
use Rattle.ipc.specs.Streams.{record_batch_of}
use Rattle.nest_array.specs.Seen.{layout_of}
use Rattle.cli_rows.specs.Rows.{rows_of}
use Rattle.cli_write.specs.ImportStates.{IsLinesError}
use Rattle.cli_write.proofs.ParsedLines.{are-rows, first-batch, unread-text}
use Rattle.cli_write.proofs.Newlines.{some-lines}
use Rattle.json_read.specs.JsonLines as json_lines
use Rattle.json_read.specs.LineSplit.{lines_of}
use Rattle.json_read.specs.UnsupportedTypes.{unsupported_type}
use Rattle.cli_rows.specs.SelectedTables.{batch_rows}
use Rattle.nest_memory.specs.Physical.{physical_type}
use Rattle.nest_memory.specs.TypeOf.{field_of, type_of}
use Rattle.cli_write.proofs.import.batch.parse_batch.Goals as goal

pub push_batch-requires : goal.push_batch-requires
push_batch-requires c =
    let fs = map field_of c.args.fields.now in
    let a = layout_of c.in-Ok.rows.array in
    are-rows fs a (c.in-Ok.ensures.same_type ∙ c.requires) (ap unsupported_type (sym c.requires) ∙ c.in-Ok.ensures.supported) (c.in-Ok.ensures.valid (ap physical_type c.requires))

pub returns-in-Err-clause-error : goal.returns-in-Err-clause-error
returns-in-Err-clause-error c =
    let fs = map field_of c.args.fields.now in
    subst (λ e. IsLinesError e fs (lines_of c.args.text.now)) (sym c.from.ensures)
    (unread-text fs (type_of c.args.data_type.now) c.in-Err.error 65536 (lines_of c.args.text.now) c.requires c.in-Err.ensures.error)

pub returns-in-Ok-push_batch-clause-rows : goal.returns-in-Ok-push_batch-clause-rows
returns-in-Ok-push_batch-clause-rows c =
    let fs = map field_of c.args.fields.now in
    let rows = c.in-Ok.rows in
    let a = layout_of rows.array in
    let alone = c.in-Ok-push_batch.ensures.rows ∙ ap (λ bs. batch_rows fs (map record_batch_of bs) ++ rows_of a) c.new-batches.ensures.items in
    first-batch fs c.args.text.now 65536 rows.used rows.lines a [] (map record_batch_of c.push_batch.new.batches.items) c.in-Ok.ensures.lines
    (ap (λ t. json_lines.line_rows t (lines_of (take rows.used c.args.text.now))) (sym c.requires) ∙ c.in-Ok.ensures.rows) (c.in-Ok.ensures.same_type ∙ c.requires) alone

pub returns-in-Ok-push_batch-clause-some : goal.returns-in-Ok-push_batch-clause-some
returns-in-Ok-push_batch-clause-some c = λ there. some-lines c.args.text.now 65536 c.in-Ok.rows.used c.in-Ok.rows.lines c.in-Ok.ensures.lines (omega arith) there
