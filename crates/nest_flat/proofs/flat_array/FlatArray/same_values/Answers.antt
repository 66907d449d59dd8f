use Rattle.std.proofs.Common.{arith}
use Rattle.nest_model.specs.Meaning.{slot}
use Rattle.nest_flat.specs.BareSlots.{bare}
use Rattle.nest_flat.specs.SameRuns.{runs-differ, runs-same}
use Rattle.nest_flat.proofs.flat_array.FlatArray.same_values.Goals as goal

pub returns-then-not-is_same_value : goal.returns-then-not-is_same_value
returns-then-not-is_same_value g c =
    runs-differ (slot (bare (g.Self.FlatArray.layout c.args.self.now))) (slot (bare (g.Self.FlatArray.layout c.args.other.now))) c.args.o c.args.p c.args.n c.loop-k.k _ c.is_same_value.ensures c.if-not-is_same_value.true c.loop-k-test.true

pub returns : goal.returns
returns g c =
    runs-same (slot (bare (g.Self.FlatArray.layout c.args.self.now))) (slot (bare (g.Self.FlatArray.layout c.args.other.now))) c.args.o c.args.p c.args.n c.loop-k.k c.loop-k.invariant (omega (arith, c.loop-k-test.false))
