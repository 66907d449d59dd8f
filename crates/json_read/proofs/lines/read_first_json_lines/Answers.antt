use Rattle.std.proofs.Common.{◌≡◌, Ok, take, subst}
use Rattle.std.proofs.lemmas.Result.{IfOk-weaker}
use Rattle.nest_any.specs.Words.{layout_of, slots_of, type_of}
use Rattle.json_read.specs.JsonLines.{line_rows}
use Rattle.json_read.specs.LineSplit.{lines_of}
use Rattle.json_read.proofs.LineLaws.{rows-there}
use Rattle.json_read.proofs.lines.read_first_json_lines.Goals as goal

pub returns-in-Ok-clause-valid : goal.returns-in-Ok-clause-valid
returns-in-Ok-clause-valid c =
    IfOk-weaker c.fill.result _ _
    (λ r h.
    let lines = lines_of (take r.used c.args.text.now) in
    let slots = slots_of (layout_of r.array) in
    rows-there (type_of c.args.data_type.now) lines slots (subst (λ t. line_rows t lines ≡ Ok slots) c.in-Ok.ensures.same_type h))
    c.fill.ensures.rows
