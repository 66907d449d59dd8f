use Rattle.ipc.specs.Examples.{worked_whole}
use Rattle.ipc.proofs.laws.stream_is_read.Goals as goal

pub returns : goal.returns
returns c = worked_whole
