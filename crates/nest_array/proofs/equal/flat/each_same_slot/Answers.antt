use Rattle.std.proofs.Common.{◌+◌, arith}
use Rattle.nest_model.specs.Meaning.{slot}
use Rattle.nest_flat.specs.SameRuns.{runs-differ}
use Rattle.nest_array.proofs.Counts.{same-more, tells-stopped, tells-exact}
use Rattle.nest_array.proofs.equal.flat.each_same_slot.Goals as goal

pub returns-then-not-is_same_slot-clause-same : goal.returns-then-not-is_same_slot-clause-same
returns-then-not-is_same_slot-clause-same g c =
    runs-differ (slot (g.A.FlatArray.layout c.args.a)) (slot (g.A.FlatArray.layout c.args.b)) c.args.o c.args.p c.args.n c.loop-k.k _ c.is_same_slot.ensures c.if-not-is_same_slot.true c.loop-k-test.true

pub returns-then-not-is_same_slot-clause-comparisons : goal.returns-then-not-is_same_slot-clause-comparisons
returns-then-not-is_same_slot-clause-comparisons g c = tells-stopped _ _ (c.loop-k.k + 1) _ (omega (arith, c.add.ensures, c.loop-k.invariant.comparisons)) (omega (arith, c.loop-k-test.true))

pub loop-k-preserved : goal.loop-k-preserved
loop-k-preserved g c =
    record {
      same = same-more (slot (g.A.FlatArray.layout c.args.a)) (slot (g.A.FlatArray.layout c.args.b)) c.args.o c.args.p c.loop-k.k c.loop-k.invariant.same (c.is_same_slot.ensures.0 c.if-not-is_same_slot.false);
      comparisons = c.loop-k.invariant.comparisons;
    }

pub returns-clause-comparisons : goal.returns-clause-comparisons
returns-clause-comparisons g c = tells-exact _ _ _ _ (omega (arith, c.add-2.ensures, c.loop-k.invariant.comparisons))
