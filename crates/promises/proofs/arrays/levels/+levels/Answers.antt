use Rattle.std.proofs.Common.{◌≡◌, ◌+◌, suc, length, subst, ap, arith}
use Rattle.nest_array.proofs.Children.{weight-at}
use Rattle.nest_array.specs.Seen.{layout_of}
use Rattle.nest_model.specs.Layout.{weight}
use Rattle.promises.proofs.Children.{FitBefore, one-more, all-fit}
use Rattle.promises.proofs.arrays.levels.+levels.Goals as goal

pub fit_at_every_level-loop-array-init : goal.fit_at_every_level-loop-array-init
fit_at_every_level-loop-array-init t c = tt

pub fit_at_every_level-fits_at_every_level-requires :
    goal.fit_at_every_level-fits_at_every_level-requires
fit_at_every_level-fits_at_every_level-requires t c =
    let w = weight-at c.args.arrays.now c.loop-array.array-index c.array-item.result c.loop-array-test.true in
    let e = ap (λ x. weight (layout_of x)) c.array-item.is in
    (omega (arith, w, e), tt)

pub fit_at_every_level-loop-array-preserved : goal.fit_at_every_level-loop-array-preserved
fit_at_every_level-loop-array-preserved t c =
    let e : suc c.loop-array.array-index ≡ c.loop-array.array-index + 1 = omega arith in
    subst (FitBefore c.args.arrays.now) e (one-more c.args.arrays.now c.loop-array.array-index c.array-item.result c.loop-array-test.true c.array-item.is c.fits_at_every_level.ensures c.loop-array.invariant)

pub fit_at_every_level-returns : goal.fit_at_every_level-returns
fit_at_every_level-returns t c =
    let e : c.loop-array.array-index ≡ length c.args.arrays.now = omega arith in
    all-fit c.args.arrays.now (subst (FitBefore c.args.arrays.now) e c.loop-array.invariant)
