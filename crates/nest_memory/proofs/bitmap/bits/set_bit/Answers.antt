use Rattle.std.proofs.Common.{◌∙◌, arith, refl}
use Rattle.nest_memory.proofs.BitLists.{bit_written, bit_put_other}
use Rattle.nest_memory.proofs.bitmap.bits.set_bit.Goals as goal

pub returns-clause-same : goal.returns-clause-same
returns-clause-same c = bit_written _ _ _ _ (omega arith) refl ∙ c.with_bit-byte.ensures.same

pub returns-clause-other : goal.returns-clause-other
returns-clause-other c = λ j n. bit_put_other _ _ _ _ j c.requires c.index.ensures c.with_bit-byte.ensures.other n
