use Rattle.std.proofs.Common.{◌≡◌, ◌+◌, ◌≤◌, true, false, arith, refl}
use Rattle.nest_model.specs.Meaning.{slot}
use Rattle.nest_flat.specs.BareSlots.{bare}
use Rattle.nest_array.proofs.Counts.{same-joined, part-differs}
use Rattle.nest_array.proofs.equal.flat.same_blocks.Goals as goal

pub returns-then-not-same_values-clause-differ : goal.returns-then-not-same_values-clause-differ
returns-then-not-same_values-clause-differ g c =
    let a = bare (g.A.FlatArray.layout c.args.a) in
    let b = bare (g.A.FlatArray.layout c.args.b) in
    let h : c.loop-done.done + g.row.B ≤ c.args.n = omega (arith, c.loop-done-test.true, c.loop-done.invariant.within) in
    λ e. let u : false ≡ true = (part-differs (slot a) (slot b) c.args.o c.args.p c.args.n c.loop-done.done g.row.B _ c.same_values.ensures c.if-not-same_values.true h).1 e in cc

pub returns-then-not-same_values-clause-stopped : goal.returns-then-not-same_values-clause-stopped
returns-then-not-same_values-clause-stopped g c = omega (arith, c.add.ensures, c.loop-done.invariant.comparisons, c.loop-done-test.true, c.loop-done.invariant.within)

pub loop-done-preserved : goal.loop-done-preserved
loop-done-preserved g c =
    let a = bare (g.A.FlatArray.layout c.args.a) in
    let b = bare (g.A.FlatArray.layout c.args.b) in
    record {
      within = omega (arith, c.loop-done-test.true, c.loop-done.invariant.within);
      same = same-joined (slot a) (slot b) c.args.o c.args.p c.loop-done.done g.row.B (c.loop-done.done + g.row.B) refl c.loop-done.invariant.same (c.same_values.ensures.0 c.if-not-same_values.false);
      comparisons = omega (arith, c.add.ensures, c.loop-done.invariant.comparisons);
    }
