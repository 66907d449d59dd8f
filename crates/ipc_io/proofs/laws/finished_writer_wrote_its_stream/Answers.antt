use Rattle.ipc_io.specs.WriterLaws.{stream_put}
use Rattle.ipc_io.proofs.laws.finished_writer_wrote_its_stream.Goals as goal

pub returns : goal.returns
returns g c = stream_put g.W.Write.contents
