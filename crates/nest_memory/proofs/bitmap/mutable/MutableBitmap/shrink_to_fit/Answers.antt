use Rattle.std.proofs.Common.{◌∙◌, arith}
use Rattle.nest_memory.proofs.BitLists.{bits_same}
use Rattle.nest_memory.proofs.BitCounts.{bit_take}
use Rattle.nest_memory.proofs.bitmap.mutable.MutableBitmap.shrink_to_fit.Goals as goal

pub returns : goal.returns
returns c =
    bits_same _ _ _ (λ j lt. bit_take _ _ _ j (c.shrink_to_fit.ensures.items ∙ c.truncate.ensures.items) (omega (arith, c.byte_count.ensures.enough)))
    ∙ c.self.view_is
