use Rattle.std.proofs.Common.{length, ap, ◌∙◌}
use Rattle.ipc_arrays.proofs.Copies.{bits_long}
use Rattle.ipc_arrays.proofs.bits.bitmap_of.Goals as goal

pub returns-in-Ok-clause-slots : goal.returns-in-Ok-clause-slots
returns-in-Ok-clause-slots c = ap length c.in-Ok.ensures.ok ∙ bits_long c.args.bytes.items c.args.slots
