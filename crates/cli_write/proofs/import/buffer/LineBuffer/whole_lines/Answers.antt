use Rattle.std.proofs.Common.{sym}
use Rattle.cli_write.proofs.Newlines.{feed-fed}
use Rattle.cli_write.proofs.import.buffer.LineBuffer.whole_lines.Goals as goal

pub returns-in-Some-clause-lines : goal.returns-in-Some-clause-lines
returns-in-Some-clause-lines g c =
    let at = c.in-Some.ensures in
    rw (c.if-self.false, sym c.deref.ensures.value) (feed-fed c.deref.result.now c.in-Some.i at.0.high at.1)
