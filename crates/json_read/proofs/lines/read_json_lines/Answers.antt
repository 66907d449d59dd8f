use Rattle.std.proofs.Common.{◌∙◌, ap, subst, sym}
use Rattle.nest_any.specs.Words.{type_of}
use Rattle.json_read.specs.JsonLines.{IsJsonReadError, line_rows}
use Rattle.json_read.specs.LineSplit.{lines_of}
use Rattle.json_read.proofs.LineLaws.{all-lines, all-text, all-used}
use Rattle.json_read.proofs.lines.read_json_lines.Goals as goal

pub returns-in-Ok-clause-rows : goal.returns-in-Ok-clause-rows
returns-in-Ok-clause-rows c =
    let text = c.args.text.now in
    let r = c.in-Ok.rows in
    ap (λ xs. line_rows (type_of c.args.data_type.now) (lines_of xs)) (sym (all-text text r.used (all-used text r.used r.lines c.in-Ok.ensures.lines))) ∙ c.in-Ok.ensures.rows

pub returns-in-Err-clause-error : goal.returns-in-Err-clause-error
returns-in-Err-clause-error c = subst (λ ls. IsJsonReadError c.in-Err.error (type_of c.args.data_type.now) ls) (all-lines c.args.text.now) c.in-Err.ensures.error
