use Rattle.std.proofs.Common.{sym, subst}
use Rattle.cli_write.proofs.Writers.{end-file, end-stream, stop-file, stop-stream}
use Rattle.cli_write.proofs.writer.BatchWriter.finish.Goals as goal

pub returns-in-Ok-clause-put : goal.returns-in-Ok-clause-put
returns-in-Ok-clause-put g c = rw c.in-Stream.is (end-stream g.W.Write.contents c.in-Stream.writer c.in-Ok.out c.in-Ok.ensures)

pub returns-in-Err-clause-error : goal.returns-in-Err-clause-error
returns-in-Err-clause-error g c = rw (c.in-Stream.is, c.from.ensures) (stop-stream g.W.Write.contents c.in-Stream.writer c.in-Err.e c.in-Err.ensures)

pub returns-in-Ok-finish-clause-put : goal.returns-in-Ok-finish-clause-put
returns-in-Ok-finish-clause-put g c = rw c.in-File.is (end-file g.W.Write.contents c.in-File.writer c.in-Ok-finish.out c.in-Ok-finish.ensures.ended c.in-Ok-finish.ensures.again)

pub returns-in-Err-finish-clause-error : goal.returns-in-Err-finish-clause-error
returns-in-Err-finish-clause-error g c = rw (c.in-File.is, c.from-in-Err-finish.ensures) (stop-file g.W.Write.contents c.in-File.writer c.in-Err-finish.e c.in-Err-finish.ensures.ended)
