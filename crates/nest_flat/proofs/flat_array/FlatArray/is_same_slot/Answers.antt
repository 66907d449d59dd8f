use Rattle.nest_flat.specs.BareSlots.{slot-shown, no-same, not-null, same-along}
use Rattle.nest_flat.proofs.flat_array.FlatArray.is_same_slot.Goals as goal

pub returns-then-null : goal.returns-then-null
returns-then-null g c = no-same _ _ _ c.is_null_slot-null.ensures.slot c.if-null.true (not-null _ _ c.is_null_slot.ensures.slot c.if-is_null_slot.false)

pub returns : goal.returns
returns g c =
    same-along _ _ _ _ _ (slot-shown (g.Self.FlatArray.layout c.args.self.now) c.args.i _ c.is_null_slot-null.ensures.bit c.if-null.false)
    (slot-shown (g.Self.FlatArray.layout c.args.other.now) c.args.j _ c.is_null_slot.ensures.bit c.if-is_null_slot.false) c.is_same_value.ensures
