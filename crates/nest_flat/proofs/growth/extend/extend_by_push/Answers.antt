use Rattle.std.proofs.Common.{ap, ◌∙◌, subst, rules, arith}
use Rattle.std.proofs.iter.Next.{Yields-more}
use Rattle.nest_model.specs.Layout.{Layout, layout_type}
use Rattle.nest_flat.specs.Growth.{IsReportedError, rolled_back}
use Rattle.nest_flat.proofs.Extending.{grew-len, took-none, took-more, took-back}
use Rattle.nest_flat.proofs.growth.extend.extend_by_push.Goals as goal

pub loop-item-init : goal.loop-item-init
loop-item-init g c = (search rules, search rules, took-none g.B.Grow.pushed g.B.Grow.refusal g.B.Grow.slot_of_item _)

pub rollback-requires : goal.rollback-requires
rollback-requires g c =
    let took = c.loop-item.invariant.2 in
    let l = grew-len _ _ _ took.grew in
    rw (c.in-Err.ensures.err) (omega arith)

pub loop-item-preserved : goal.loop-item-preserved
loop-item-preserved g c =
    let more = took-more g.B.Grow.pushed g.B.Grow.refusal g.B.Grow.slot_of_item c.loop-item.yielded c.in-Some.item _ _ _ c.loop-item.invariant.2 c.in_default.ensures.parts c.in_default.ensures.unrefused c.in_default.ensures.grew in
    (search rules, search rules, more)

pub returns-in-Err-clause-err : goal.returns-in-Err-clause-err
returns-in-Err-clause-err g c =
    took-back g.B.Grow.pushed g.B.Grow.refusal g.B.Grow.slot_of_item c.loop-item.yielded _ _ _ c.count-len.result c.has_validity-masked.result c.loop-item.invariant.2
    c.count-len.ensures c.has_validity-masked.ensures.masked c.has_validity-masked.ensures.whole
    (c.rollback.ensures ∙ ap (λ (a : Layout). rolled_back a c.count-len.result c.has_validity-masked.result) c.in-Err.ensures.err)

pub returns-in-Err-clause-same_type : goal.returns-in-Err-clause-same_type
returns-in-Err-clause-same_type g c = ap layout_type (returns-in-Err-clause-err g c)

pub returns-in-Err-clause-cause : goal.returns-in-Err-clause-cause
returns-in-Err-clause-cause g c =
    let it = c.into_iter-item-iterator in
    let xs = c.loop-item.yielded in
    let x = c.in-Some.item in
    let more = Yields-more g.I.IntoIter.Iterator.next_gives it.result xs c.loop-item.item-iterator x c.next.new.self c.loop-item.yielded_by c.in-Some.ensures.steps in
    let took = c.loop-item.invariant.2 in
    (xs, x, (it.result, c.next.new.self, it.ensures.into_iter_gives, more), took.unrefused, subst (λ (b : Layout). IsReportedError (g.B.Grow.refusal b x) c.in-Err.error) took.parts c.in-Err.ensures.cause)
