use Rattle.ipc_io.proofs.Writes.{write_more}
use Rattle.ipc_io.proofs.output.write_all.Goals as goal

pub bytes-preserved : goal.bytes-preserved
bytes-preserved g c = write_more _ _ _ _ c.bytes.rest.now c.in-Ok.n c.bytes.invariant c.in-Ok.ensures.bytes
