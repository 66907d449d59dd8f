use Rattle.ipc_io.specs.FileWriterLaws.{file_begins}
use Rattle.ipc_io.proofs.laws.failed_writer_wrote_a_prefix_of_its_file.Goals as goal

pub returns : goal.returns
returns g c = file_begins g.W.Write.contents
