use Rattle.std.proofs.Common.{◌<◌}
use Rattle.std.specs.Io.KnownBytes.{Keeps}
use Rattle.cli_write.specs.LineBuffers.{KnowsEnd, HasNewline, unread_bytes}
use Rattle.cli_write.proofs.import.buffer.LineBuffer.fill.Given as goal

abbrev pub invariant-reads : goal.invariant-reads
invariant-reads g l = record {
  ahead : Keeps (unread_bytes g.R.Read.remaining l.fn.self) (unread_bytes g.R.Read.remaining l.self);
  over : KnowsEnd g.R.Read.remaining l.self;
  newlines : 0 < l.lines → HasNewline l.self.text.items;
}
