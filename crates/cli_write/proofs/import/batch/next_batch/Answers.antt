use Rattle.std.proofs.Common.{◌≡◌, [], map, subst, take}
use Rattle.std.proofs.lemmas.Result.{IfErr-weaker, IfOk-weaker}
use Rattle.ipc.specs.Streams.{record_batch_of}
use Rattle.cli_write.specs.ImportStates.{ReadsBatch, IsLinesError}
use Rattle.json_read.specs.LineSplit.{lines_of}
use Rattle.nest_memory.specs.TypeOf.{field_of}
use Rattle.cli_write.proofs.Newlines.{whole-there}
use Rattle.cli_write.proofs.ImportSteps.{reads-on, stays-unread}
use Rattle.cli_write.proofs.import.batch.next_batch.Goals as goal

pub returns-clause-rows : goal.returns-clause-rows
returns-clause-rows g c =
    let fs = map field_of c.args.fields.now in
    let n = c.whole_lines-whole.result in
    IfOk-weaker c.parse_batch.result _ _
    (λ t b. reads-on fs c.args.text.now.is_over c.args.text.now.text.items n t.used t.lines (map record_batch_of t.batches.items) c.whole_lines-whole.ensures.lines
    (subst (λ text. ReadsBatch fs (take n text) t.used t.lines [] (map record_batch_of t.batches.items)) c.deref.ensures.value b))
    c.parse_batch.ensures.rows

pub returns-clause-error : goal.returns-clause-error
returns-clause-error g c =
    let fs = map field_of c.args.fields.now in
    let n = c.whole_lines-whole.result in
    IfErr-weaker c.parse_batch.result _ _
    (λ e u. stays-unread e fs c.args.text.now.is_over c.args.text.now.text.items n c.whole_lines-whole.ensures.lines (subst (λ text. IsLinesError e fs (lines_of (take n text))) c.deref.ensures.value u))
    c.parse_batch.ensures.error

pub returns-clause-some : goal.returns-clause-some
returns-clause-some g c =
    let text = c.args.text.now in
    let n = c.whole_lines-whole.result in
    IfOk-weaker c.parse_batch.result _ _
    (λ t some line. some (λ none. whole-there text.is_over text.text.items n c.whole_lines-whole.ensures.lines c.whole_lines-whole.ensures.some line (subst (λ bytes. take n bytes ≡ []) c.deref.ensures.value none)))
    c.parse_batch.ensures.some
