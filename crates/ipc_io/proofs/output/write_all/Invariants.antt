use Rattle.std.proofs.Common.{length}
use Rattle.ipc_io.proofs.Writes.{IsUnderWay}
use Rattle.ipc_io.proofs.output.write_all.Given as goal

abbrev pub invariant-bytes : goal.invariant-bytes
invariant-bytes g l = let contents = g.W.Write.contents in IsUnderWay (contents l.fn.writer) (contents l.writer) l.bytes l.rest

abbrev pub decreases-bytes : goal.decreases-bytes
decreases-bytes g l = length l.rest
