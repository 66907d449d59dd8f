use Rattle.std.proofs.Common.{◌∙◌}
use Rattle.std.specs.Int.{div_ceil}
use Rattle.ipc_arrays.proofs.Arrays.{some_size}
use Rattle.ipc_arrays.proofs.validity.validity_size.Goals as goal

pub returns-in-Some : goal.returns-in-Some
returns-in-Some c = rw c.in-Some.is (some_size c.in-Some.bits.now c.div_ceil.result c.unset_bits.result c.unset_bits.ensures c.if-unset_bits-ne0.true (c.div_ceil.ensures ∙ (λ w. div_ceil (c.len.ensures w) 8)))
