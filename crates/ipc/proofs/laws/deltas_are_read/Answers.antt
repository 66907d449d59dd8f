use Rattle.ipc.specs.DeltaExamples.{are_deltas}
use Rattle.ipc.proofs.laws.deltas_are_read.Goals as goal

pub returns : goal.returns
returns c = are_deltas
