use Rattle.ipc_io.specs.WriterLaws.{failed_stays}
use Rattle.ipc_io.proofs.laws.failed_writer_writes_nothing.Goals as goal

pub returns : goal.returns
returns g c = failed_stays g.W.Write.contents
