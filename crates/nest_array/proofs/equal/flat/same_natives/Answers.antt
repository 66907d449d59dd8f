use Rattle.nest_flat.specs.BareSlots.{same-along}
use Rattle.nest_array.proofs.Counts.{bare-run}
use Rattle.nest_array.proofs.equal.flat.same_natives.Goals as goal

pub returns-then-is_full-2-clause-same : goal.returns-then-is_full-2-clause-same
returns-then-is_full-2-clause-same g c =
    same-along _ _ _ _ _ (bare-run c.args.a.now c.args.o c.args.n (c.is_full.ensures.0 c.if-is_full.true))
    (bare-run c.args.b.now c.args.p c.args.n (c.is_full-then-is_full.ensures.0 c.if-is_full-2.true)) c.same_bare.ensures.same
