use Rattle.std.proofs.Common.{ap}
use Rattle.std.specs.Option.{option_copied}
use Rattle.std.proofs.lemmas.Iterator.{YieldsList-from_slice}
use Rattle.std.proofs.lemmas.Iterator.Consumers.{YieldsList-at, YieldsList-from_copied}
use Rattle.std.proofs.lemmas.Result.{on_ok_weaker, IfErr-weaker}
use Rattle.nest_build.proofs.Slices.{slice_took, slice_refused}
use Rattle.nest_build.proofs.fixed_size_list.mutable.MutableFixedSizeListArray.try_push_slice.Goals as goal

pub returns-in-Some-clause-accepted : goal.returns-in-Some-clause-accepted
returns-in-Some-clause-accepted g c =
    let xs = c.in-Some.items.now in
    rw (ap option_copied c.in-Some.is)
    (on_ok_weaker c.try_push.result
    (λ took. (slice_took _ g.A.AsPlain.value c.copied.result xs (YieldsList-from_copied (YieldsList-at c.copied.ensures.source (YieldsList-from_slice xs c.iter.ensures.rest))) _ _ took).0)
    c.try_push.ensures.ok)

pub returns-in-Some-clause-unrefused : goal.returns-in-Some-clause-unrefused
returns-in-Some-clause-unrefused g c =
    let xs = c.in-Some.items.now in
    rw (ap option_copied c.in-Some.is)
    (on_ok_weaker c.try_push.result
    (λ took. (slice_took _ g.A.AsPlain.value c.copied.result xs (YieldsList-from_copied (YieldsList-at c.copied.ensures.source (YieldsList-from_slice xs c.iter.ensures.rest))) _ _ took).1)
    c.try_push.ensures.ok)

pub returns-in-Some-clause-cause : goal.returns-in-Some-clause-cause
returns-in-Some-clause-cause g c =
    let xs = c.in-Some.items.now in
    rw (ap option_copied c.in-Some.is)
    (IfErr-weaker c.try_push.result _ _
    (λ e refused. slice_refused _ g.A.AsPlain.value c.copied.result xs (YieldsList-from_copied (YieldsList-at c.copied.ensures.source (YieldsList-from_slice xs c.iter.ensures.rest))) _ e refused)
    c.try_push.ensures.cause)
