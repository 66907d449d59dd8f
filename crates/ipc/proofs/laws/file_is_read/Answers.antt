use Rattle.ipc.specs.FileExamples.{worked}
use Rattle.ipc.proofs.laws.file_is_read.Goals as goal

pub returns : goal.returns
returns c = worked
