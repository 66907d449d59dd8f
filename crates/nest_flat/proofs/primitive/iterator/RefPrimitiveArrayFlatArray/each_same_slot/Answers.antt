use Rattle.std.proofs.Common.{arith}
use Rattle.nest_model.specs.Meaning.{slot}
use Rattle.nest_flat.specs.BareSlots.{same-along}
use Rattle.nest_flat.specs.SameRuns.{runs-differ, runs-same}
use Rattle.nest_flat.proofs.primitive.iterator.RefPrimitiveArrayFlatArray.each_same_slot.Goals as goal

pub returns-then-not-is_same_item : goal.returns-then-not-is_same_item
returns-then-not-is_same_item g c =
    let same = same-along _ _ _ _ _ c.item_in.ensures c.item_in-in-loop-k.ensures c.is_same_item.ensures in
    runs-differ (slot c.args.self.now.now) (slot c.args.other.now.now) c.args.o c.args.p c.args.n c.loop-k.k _ same c.if-not-is_same_item.true c.loop-k-test.true

pub returns : goal.returns
returns g c = runs-same (slot c.args.self.now.now) (slot c.args.other.now.now) c.args.o c.args.p c.args.n c.loop-k.k c.loop-k.invariant (omega (arith, c.loop-k-test.false))
