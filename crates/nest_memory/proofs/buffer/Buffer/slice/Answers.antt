use Rattle.nest_memory.specs.SliceLaws.{cut-shown}
use Rattle.nest_memory.proofs.buffer.Buffer.slice.Goals as goal

pub returns : goal.returns
returns g c = cut-shown _ _ _ _ _ _ c.self.view_is c.requires
