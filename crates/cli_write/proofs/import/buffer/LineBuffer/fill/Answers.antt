use Rattle.std.proofs.Common.{inl, inr}
use Rattle.cli_write.proofs.UnreadBytes.{keeps-both}
use Rattle.cli_write.proofs.Newlines.{counted}
use Rattle.cli_write.proofs.import.buffer.LineBuffer.fill.Goals as goal

pub reads-preserved : goal.reads-preserved
reads-preserved g c = record {
  ahead = keeps-both _ _ _ c.reads.invariant.ahead c.in-Ok.ensures.ahead;
  over = c.in-Ok.ensures.over;
  newlines = λ lt. c.in-Ok.ensures.newlines (elim (counted c.reads.lines c.in-Ok.more lt) [ inl before ↦ inr (c.reads.invariant.newlines before) | inr now ↦ inl now ]);
}
