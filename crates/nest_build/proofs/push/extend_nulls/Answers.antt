use Rattle.std.proofs.Common.{◌≡◌, arith, subst, false, replicate}
use Rattle.std.proofs.lemmas.List.{replicate_more}
use Rattle.nest_model.specs.BuilderItem as items
use Rattle.nest_model.specs.BuilderAppend.{AcceptedAll}
use Rattle.nest_model.specs.BuilderRefusals.{nulls_pass}
use Rattle.nest_model.specs.BuilderAppendLaws.{accepted_none, accepted_more}
use Rattle.nest_build.proofs.Nulls.{null-fits_more, null-refused}
use Rattle.nest_build.proofs.push.extend_nulls.Goals as goal

pub loop-i-init : goal.loop-i-init
loop-i-init g c = (accepted_none _ c.requires.complete, λ l. absurd (omega (arith, l)))

pub loop-i-preserved : goal.loop-i-preserved
loop-i-preserved g c =
    let took = c.in-Ok.ensures in
    (rw (← (replicate_more c.loop-i._i items.null)) (accepted_more _ _ _ _ _ c.loop-i.invariant.0 took.accepted), λ l. null-fits_more _ _ c.loop-i._i c.loop-i.invariant.0 c.loop-i.invariant.1 took.unrefused)

pub returns-in-Err-clause-cause : goal.returns-in-Err-clause-cause
returns-in-Err-clause-cause g c = null-refused _ _ c.loop-i._i _ _ (omega arith) c.loop-i.invariant.0 c.in-Err.ensures.cause

pub returns-clause-ok : goal.returns-clause-ok
returns-clause-ok g c =
    let e : c.loop-i._i ≡ c.args.n = omega arith in (
      subst (λ i. AcceptedAll (replicate i items.null) (g.B.MutableArray.model c.args.builder.now) (g.B.MutableArray.model c.loop-i.builder)) e c.loop-i.invariant.0,
      subst (λ i. nulls_pass i (g.B.MutableArray.model c.args.builder.now) ≡ false) e (c.loop-i.invariant.1 (omega (arith, c.requires.some, e))),
    )
