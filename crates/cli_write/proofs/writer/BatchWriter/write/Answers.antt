use Rattle.std.proofs.Common.{sym, subst}
use Rattle.ipc.specs.Streams.{record_batch_of}
use Rattle.cli_write.proofs.Writers.{fails-file, fails-stream, put-file, put-stream}
use Rattle.cli_write.proofs.writer.BatchWriter.write.Goals as goal

pub returns-in-Ok-clause-put : goal.returns-in-Ok-clause-put
returns-in-Ok-clause-put g c = rw c.in-Stream.is (put-stream g.W.Write.contents (record_batch_of c.args.batch.now) c.in-Stream.writer c.write.new.self (c.in-Ok.ensures.put, c.in-Ok.ensures.again))

pub returns-in-Err-clause-error : goal.returns-in-Err-clause-error
returns-in-Err-clause-error g c = rw (c.in-Stream.is, c.from.ensures) (fails-stream g.W.Write.contents (record_batch_of c.args.batch.now) c.in-Stream.writer c.write.new.self c.in-Err.e c.in-Err.ensures.put)

pub returns-in-Ok-write-clause-put : goal.returns-in-Ok-write-clause-put
returns-in-Ok-write-clause-put g c =
    let e = c.in-Ok-write.ensures in
    rw c.in-File.is (put-file g.W.Write.contents (record_batch_of c.args.batch.now) c.in-File.writer c.write-in-File.new.self (e.put, e.noted, e.known, e.again))

pub returns-in-Err-write-clause-error : goal.returns-in-Err-write-clause-error
returns-in-Err-write-clause-error g c =
    rw (c.in-File.is, c.from-in-Err-write.ensures) (fails-file g.W.Write.contents (record_batch_of c.args.batch.now) c.in-File.writer c.write-in-File.new.self.stream c.in-Err-write.e c.in-Err-write.ensures.put)
