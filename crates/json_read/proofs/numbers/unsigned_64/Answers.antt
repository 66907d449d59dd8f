use Rattle.std.proofs.Common.{ap, sym, ◌∙◌, Some}
use Rattle.json_read.proofs.Wholes.{unsigned-ok, zero-ok, unsigned-err}
use Rattle.json_read.proofs.numbers.unsigned_64.Goals as goal

pub returns-in-Ok : goal.returns-in-Ok
returns-in-Ok c = unsigned-ok 64 _ c.in_ok-text.text.now c.in-Ok.number c.in_ok-text.ensures (rw c.as_bytes.ensures.value at c.in-Ok.ensures)

pub returns-in-Ok-zero_of : goal.returns-in-Ok-zero_of
returns-in-Ok-zero_of c = zero-ok 64 _ c.in_ok-text.text.now c.in_ok-text.ensures.0 c.in-Ok-zero_of.ensures

pub returns-in-Err-zero_of : goal.returns-in-Err-zero_of
returns-in-Err-zero_of c = unsigned-err 64 _ c.in_ok-text.text.now c.in_ok-text.ensures (rw c.as_bytes.ensures.value at c.in-Err.ensures) c.in-Err-zero_of.ensures.0 ∙ ap Some (sym c.in-Err-zero_of.ensures.1)
