use Rattle.std.proofs.Common.{◌∙◌}
use Rattle.nest_flat.specs.BareSlots.{slot-shown}
use Rattle.nest_flat.proofs.flat_array.SlotsSlotItems.item.Goals as goal

pub returns : goal.returns
returns g c = c.value_at.ensures ∙ slot-shown (g.A.FlatArray.layout c.args.self.now.0) c.args.i _ c.is_null_slot.ensures.bit c.if-is_null_slot.false
