use Rattle.nest_memory.proofs.BitCounts.{bits_empty}
use Rattle.nest_memory.proofs.bitmap.immutable.Bitmap.is_empty.Goals as goal

pub returns : goal.returns
returns c = bits_empty _ _ _ _ c.self.view_is
