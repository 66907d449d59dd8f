use Rattle.ipc_io.specs.WriterLaws.{stream_begins}
use Rattle.ipc_io.proofs.laws.failed_writer_wrote_a_prefix_of_its_stream.Goals as goal

pub returns : goal.returns
returns g c = stream_begins g.W.Write.contents
