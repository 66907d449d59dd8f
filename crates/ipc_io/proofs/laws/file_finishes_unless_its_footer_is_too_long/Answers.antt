use Rattle.ipc_io.specs.FileWriterLaws.{end_is}
use Rattle.ipc_io.proofs.laws.file_finishes_unless_its_footer_is_too_long.Goals as goal

pub returns : goal.returns
returns g c = end_is g.W.Write.contents
