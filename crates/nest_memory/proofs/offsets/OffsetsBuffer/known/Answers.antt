use Rattle.nest_memory.proofs.Rises.{never_fall_as}
use Rattle.nest_memory.proofs.offsets.OffsetsBuffer.known.Goals as goal

pub returns-clause-rising : goal.returns-clause-rising
returns-clause-rising g c = never_fall_as g.O.Offset.value _ _ c.self.view_is c.self.invariant
