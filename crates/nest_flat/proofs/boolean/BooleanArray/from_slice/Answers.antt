use Rattle.nest_memory.specs.TypeTree as types
use Rattle.nest_flat.proofs.Slices.{if_ok-slots, booleans-slots}
use Rattle.nest_flat.proofs.boolean.BooleanArray.from_slice.Goals as goal

pub returns-clause-slots : goal.returns-clause-slots
returns-clause-slots c = if_ok-slots _ _ c.try_new.result _ _ c.try_new.ensures (booleans-slots types.boolean c.in_ok-bits.bits c.args.values.now c.in_ok-bits.ensures.ok)
