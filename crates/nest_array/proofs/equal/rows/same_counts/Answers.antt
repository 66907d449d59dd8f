use Rattle.std.proofs.Common.{◌≡◌, ◌+◌, suc, ap, arith}
use Rattle.nest_array.specs.RowSlots.{bound_of}
use Rattle.nest_array.proofs.Joined.{bounds-more}
use Rattle.nest_array.proofs.equal.rows.same_counts.Goals as goal

pub returns-then-count-other_count-clause-same : goal.returns-then-count-other_count-clause-same
returns-then-count-other_count-clause-same g c s =
    let k = c.loop-k.k in
    let a = g.R.Rows.layout c.args.xs.now in
    let b = g.S.Rows.layout c.args.ys.now in
    let p = s k (omega (arith, c.loop-k-test.true)) in
    let q = s (suc k) (omega (arith, c.loop-k-test.true)) in
    let x = ap (bound_of a) (let z : suc (c.args.o + k) ≡ c.args.o + suc k = omega arith in z) in
    let y = ap (bound_of b) (let z : suc (c.args.p + k) ≡ c.args.p + suc k = omega arith in z) in
    c.if-count-other_count.true (omega (arith, p, q, x, y, c.span-count.ensures.start, c.span-count.ensures.end, c.span-other_count.ensures.start, c.span-other_count.ensures.end))

pub loop-k-preserved : goal.loop-k-preserved
loop-k-preserved g c =
    let k = c.loop-k.k in
    let a = g.R.Rows.layout c.args.xs.now in
    let b = g.S.Rows.layout c.args.ys.now in
    let i = c.loop-k.invariant in
    let p = i.same k (omega arith) in
    let x = ap (bound_of a) (let z : suc (c.args.o + k) ≡ c.args.o + (k + 1) = omega arith in z) in
    let y = ap (bound_of b) (let z : suc (c.args.p + k) ≡ c.args.p + (k + 1) = omega arith in z) in
    record {
      same = bounds-more a b c.args.o c.args.p k i.same (omega (arith, p, x, y, c.if-count-other_count.false, c.span-count.ensures.start, c.span-count.ensures.end, c.span-other_count.ensures.start, c.span-other_count.ensures.end));
      counted = omega (arith, i.counted, x, c.span-count.ensures.start, c.span-count.ensures.end);
      comparisons = i.comparisons;
    }
