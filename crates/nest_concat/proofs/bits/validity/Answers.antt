use Rattle.std.proofs.Common.{◌++◌, ap, sym, ◌∙◌, arith}
use Rattle.nest_concat.specs.Windows.{bits_in, count_of}
use Rattle.nest_concat.proofs.Grown.{flat-more, sum-more, sum-within}
use Rattle.nest_concat.proofs.bits.validity.Goals as goal

pub push_validity-requires : goal.push_validity-requires
push_validity-requires c =
    omega (arith, c.loop-window.invariant.long, sum-within count_of c.args.windows.now c.loop-window.window-index c.window-item.result c.loop-window-test.true c.window-item.is, c.requires, c.ranges.total.fits)

pub loop-window-preserved : goal.loop-window-preserved
loop-window-preserved c =
    let ws = c.args.windows.now in
    let k = c.loop-window.window-index in
    let w = c.window-item.result in
    let i = c.loop-window.invariant in
    record {
      gathered = c.in_ok-push_validity.ensures.ok ∙ ap (λ z. z ++ bits_in w) i.gathered ∙ sym (flat-more bits_in ws k w c.loop-window-test.true c.window-item.is);
      long = omega (arith, c.in_ok-push_validity.ensures.count, i.long, sum-more count_of ws k w c.loop-window-test.true c.window-item.is);
    }
