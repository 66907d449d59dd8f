use Rattle.std.proofs.Common.{◌++◌, ap, sym, ◌∙◌, arith}
use Rattle.nest_concat.specs.Windows.{booleans_in, count_of}
use Rattle.nest_concat.proofs.Grown.{flat-more, sum-more, sum-within}
use Rattle.nest_concat.proofs.boolean.booleans.Goals as goal

pub push_booleans-requires-clause-room : goal.push_booleans-requires-clause-room
push_booleans-requires-clause-room c =
    omega (arith, c.loop-window.invariant.long, sum-within count_of c.args.windows.now c.loop-window.window-index c.window-item.result c.loop-window-test.true c.window-item.is, c.requires.total, c.ranges.total.fits)

pub loop-window-preserved : goal.loop-window-preserved
loop-window-preserved c =
    let ws = c.args.windows.now in
    let k = c.loop-window.window-index in
    let w = c.window-item.result in
    let i = c.loop-window.invariant in
    record {
      gathered = c.in_ok-push_booleans.ensures.ok ∙ ap (λ z. z ++ booleans_in w) i.gathered ∙ sym (flat-more booleans_in ws k w c.loop-window-test.true c.window-item.is);
      long = omega (arith, c.in_ok-push_booleans.ensures.count, i.long, sum-more count_of ws k w c.loop-window-test.true c.window-item.is);
    }
