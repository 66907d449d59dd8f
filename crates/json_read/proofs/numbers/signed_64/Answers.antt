use Rattle.std.proofs.Common.{refl, ap, sym, ◌∙◌, Some}
use mir.Syntax.{w64}
use Rattle.json_read.proofs.Wholes.{signed-ok, signed-err}
use Rattle.json_read.proofs.numbers.signed_64.Goals as goal

pub returns-in-Ok : goal.returns-in-Ok
returns-in-Ok c = signed-ok w64 64 _ c.in_ok-text.text.now c.in-Ok.number refl c.in_ok-text.ensures (rw c.as_bytes.ensures.value at c.in-Ok.ensures)

pub returns-in-Err : goal.returns-in-Err
returns-in-Err c = signed-err w64 64 _ c.in_ok-text.text.now refl c.in_ok-text.ensures (rw c.as_bytes.ensures.value at c.in-Err.ensures) ∙ ap Some (sym c.range_error.ensures)
