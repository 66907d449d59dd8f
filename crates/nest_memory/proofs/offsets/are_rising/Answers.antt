use Rattle.std.proofs.Common.{arith}
use Rattle.nest_memory.proofs.Rises.{starts_at}
use Rattle.nest_memory.proofs.offsets.are_rising.Goals as goal

pub loop-x-init : goal.loop-x-init
loop-x-init g c = starts_at g.O.Offset.value _ (omega arith)
