use Rattle.std.proofs.Common.{◌∷◌, ◌∙◌, ap}
use Rattle.listcut_rows.proofs.Lines.{next_line_is, lines_left}
use Rattle.listcut_rows.proofs.input.next_line.Goals as goal

pub returns-in-Some-clause-line : goal.returns-in-Some-clause-line
returns-in-Some-clause-line c =
    let s = c.split_at_byte in
    next_line_is c.args.bytes.now s.result.0.now s.result.1 c.requires s.ensures.before s.ensures.complete ∙ ap (λ a. s.result.0.now ∷ lines_left a) c.in-Some.is

pub returns-in-None-clause-line : goal.returns-in-None-clause-line
returns-in-None-clause-line c =
    let s = c.split_at_byte in
    next_line_is c.args.bytes.now s.result.0.now s.result.1 c.requires s.ensures.before s.ensures.complete ∙ ap (λ a. s.result.0.now ∷ lines_left a) c.in-None.is
