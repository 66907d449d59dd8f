use Rattle.std.proofs.Common.{refl}
use Rattle.nest_array.specs.Seen.{layout_of}
use Rattle.nest_concat.proofs.Keyed.{have-all, have-more}
use Rattle.nest_concat.proofs.dictionary.have_values.Goals as goal

pub loop-window-preserved : goal.loop-window-preserved
loop-window-preserved c =
    have-more (layout_of c.args.values.now) (layout_of c.values_of_window.result.now) c.args.windows.now c.loop-window.window-index c.window-item.result c.loop-window-test.true c.window-item.is c.values_of_window.ensures c.loop-window.invariant
    (c.equal.ensures.0 c.if-not-equal.false)

pub returns : goal.returns
returns c =
    let g = have-all (layout_of c.args.values.now) c.args.windows.now c.loop-window.window-index c.loop-window-test.false c.loop-window.invariant in
    (λ _. g, λ _. refl)
