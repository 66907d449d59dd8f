use Rattle.std.proofs.Common.{sym, ◌∙◌, inl, arith}
use Rattle.std.proofs.lemmas.Result.{IfErr-weaker}
use Rattle.nest_build.proofs.FlatTrees.{on_ok_both}
use Rattle.nest_build.proofs.Lists.{none_refused, none_took}
use Rattle.nest_build.proofs.FixedLists.{item_refused, other_size, row_took, counted, memory_alone}
use Rattle.nest_build.proofs.fixed_size_list.mutable.MutableFixedSizeListArrayTryPushOption.try_push.Goals as goal

pub returns-in-None-clause-ok : goal.returns-in-None-clause-ok
returns-in-None-clause-ok g c =
    on_ok_both c.push_null.result (λ a u. none_took (record { becomes = g.I.IntoIterator.into_iter_gives; steps = g.I.IntoIter.Iterator.next_gives; reads = g.M.TryExtend.reads_each }) _ _ _ c.in-None.is a u) c.push_null.ensures.accepted c.push_null.ensures.unrefused

pub returns-in-None-clause-cause : goal.returns-in-None-clause-cause
returns-in-None-clause-cause g c =
    IfErr-weaker c.push_null.result _ _ (λ e h. none_refused (record { becomes = g.I.IntoIterator.into_iter_gives; steps = g.I.IntoIter.Iterator.next_gives; reads = g.M.TryExtend.reads_each }) _ _ e c.in-None.is h) c.push_null.ensures.cause

pub returns-then-end-len-clause-cause : goal.returns-then-end-len-clause-cause
returns-then-end-len-clause-cause g c =
    other_size (record { becomes = g.I.IntoIterator.into_iter_gives; steps = g.I.IntoIter.Iterator.next_gives; reads = g.M.TryExtend.reads_each }) _ _ _ _ _ _ c.len-len.result c.len-end.result c.size-size.result c.in-Some.is c.in_default.ensures.ok c.len-len.ensures c.len-end.ensures c.size-size.ensures.value c.if-end-len.true

pub returns-in-Ok-clause-ok : goal.returns-in-Ok-clause-ok
returns-in-Ok-clause-ok g c =
    row_took (record { becomes = g.I.IntoIterator.into_iter_gives; steps = g.I.IntoIter.Iterator.next_gives; reads = g.M.TryExtend.reads_each }) _ _ _ _ _ _ _ c.len-len.result c.len-end.result c.size-size.result c.in-Some.is c.in_default.ensures.ok c.len-len.ensures c.len-end.ensures c.size-size.ensures.value c.if-end-len.false c.in-Ok.ensures.ok c.in-Ok.ensures.within (omega (arith, c.len-end.type_inv)) c.requires.complete

pub returns-in-Err-push-clause-cause : goal.returns-in-Err-push-clause-cause
returns-in-Err-push-clause-cause g c =
    let q = c.in_default.ensures.ok in
    let b = c.args.self.now in
    inl (memory_alone b.data_type b.rows (g.M.MutableArray.model b.values) _ q.0 c.len-end.result c.size-size.result _ q.2 (sym (counted _ _ c.len-len.result c.len-end.result q.0 q.2 c.len-len.ensures c.len-end.ensures) ∙ c.if-end-len.false ∙ c.size-size.ensures.value) c.size-size.ensures.value c.size-size.ensures.some c.len-end.ensures (omega (arith, c.len-end.type_inv)) c.requires.complete c.in-Err-push.ensures.cause)

pub returns-in-Err-clause-cause : goal.returns-in-Err-clause-cause
returns-in-Err-clause-cause g c =
    item_refused (record { becomes = g.I.IntoIterator.into_iter_gives; steps = g.I.IntoIter.Iterator.next_gives; reads = g.M.TryExtend.reads_each }) _ _ _ _ _ _ c.in-Some.is c.in-Err.ensures.cause
