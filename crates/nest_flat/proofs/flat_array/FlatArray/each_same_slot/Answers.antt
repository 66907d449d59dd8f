use Rattle.std.proofs.Common.{arith}
use Rattle.nest_model.specs.Meaning.{slot}
use Rattle.nest_flat.specs.SameRuns.{runs-differ, runs-same}
use Rattle.nest_flat.proofs.flat_array.FlatArray.each_same_slot.Goals as goal

pub returns-then-not-is_same_slot : goal.returns-then-not-is_same_slot
returns-then-not-is_same_slot g c =
    runs-differ (slot (g.Self.FlatArray.layout c.args.self.now)) (slot (g.Self.FlatArray.layout c.args.other.now)) c.args.o c.args.p c.args.n c.loop-k.k _ c.is_same_slot.ensures c.if-not-is_same_slot.true c.loop-k-test.true

pub returns : goal.returns
returns g c =
    runs-same (slot (g.Self.FlatArray.layout c.args.self.now)) (slot (g.Self.FlatArray.layout c.args.other.now)) c.args.o c.args.p c.args.n c.loop-k.k c.loop-k.invariant (omega (arith, c.loop-k-test.false))
