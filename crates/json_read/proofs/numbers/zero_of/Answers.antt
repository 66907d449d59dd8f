use Rattle.json_read.proofs.Wholes.{zero-read, never-zero}
use Rattle.json_read.proofs.numbers.zero_of.Goals as goal

pub returns-then-number-eq0 : goal.returns-then-number-eq0
returns-then-number-eq0 c =
    zero-read c.args.text.now c.in-Ok.number c.requires (rw c.as_bytes.ensures.value at c.in-Ok.ensures) c.if-number-eq0.true

pub returns-in-Err : goal.returns-in-Err
returns-in-Err c = (never-zero c.args.text.now c.requires (rw c.as_bytes.ensures.value at c.in-Err.ensures), c.range_error-in-Err.ensures)
