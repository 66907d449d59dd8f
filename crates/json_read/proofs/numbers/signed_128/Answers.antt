use Rattle.std.proofs.Common.{refl, ap, sym, ◌∙◌, Some}
use mir.Syntax.{w128}
use Rattle.json_read.proofs.Wholes.{signed-ok, signed-err}
use Rattle.json_read.proofs.numbers.signed_128.Goals as goal

pub returns-in-Ok : goal.returns-in-Ok
returns-in-Ok c = signed-ok w128 128 _ c.in_ok-text.text.now c.in-Ok.number refl c.in_ok-text.ensures c.in-Ok.ensures.value

pub returns-in-Err : goal.returns-in-Err
returns-in-Err c = signed-err w128 128 _ c.in_ok-text.text.now refl c.in_ok-text.ensures c.in-Err.ensures.value ∙ ap Some (sym c.range_error.ensures)
