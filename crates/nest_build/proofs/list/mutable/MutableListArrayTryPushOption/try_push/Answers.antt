use Rattle.std.proofs.lemmas.Result.{IfErr-weaker}
use Rattle.nest_build.proofs.FlatTrees.{on_ok_both}
use Rattle.nest_build.proofs.Lists.{none_refused, none_took, item_refused, place_refused, row_took}
use Rattle.nest_build.proofs.list.mutable.MutableListArrayTryPushOption.try_push.Goals as goal

pub returns-in-None-clause-ok : goal.returns-in-None-clause-ok
returns-in-None-clause-ok g c =
    on_ok_both c.push_null.result (λ a u. none_took (record { becomes = g.I.IntoIterator.into_iter_gives; steps = g.I.IntoIter.Iterator.next_gives; reads = g.M.TryExtend.reads_each }) _ _ _ c.in-None.is a u) c.push_null.ensures.accepted c.push_null.ensures.unrefused

pub returns-in-None-clause-cause : goal.returns-in-None-clause-cause
returns-in-None-clause-cause g c =
    IfErr-weaker c.push_null.result _ _ (λ e h. none_refused (record { becomes = g.I.IntoIterator.into_iter_gives; steps = g.I.IntoIter.Iterator.next_gives; reads = g.M.TryExtend.reads_each }) _ _ e c.in-None.is h) c.push_null.ensures.cause

pub returns-in-Ok-clause-ok : goal.returns-in-Ok-clause-ok
returns-in-Ok-clause-ok g c =
    row_took (record { becomes = g.I.IntoIterator.into_iter_gives; steps = g.I.IntoIter.Iterator.next_gives; reads = g.M.TryExtend.reads_each }) _ _ _ g.O.Rows.RowStore.large _ _ _ _ _ c.len-end.result c.in-Some.is c.in_default.ensures.ok c.len-end.ensures g.met.O.ListWidth.same_width c.in-Ok.ensures.ok c.in-Ok.ensures.within c.requires.complete

pub returns-in-Err-push-clause-cause : goal.returns-in-Err-push-clause-cause
returns-in-Err-push-clause-cause g c =
    place_refused (record { becomes = g.I.IntoIterator.into_iter_gives; steps = g.I.IntoIter.Iterator.next_gives; reads = g.M.TryExtend.reads_each }) _ _ _ g.O.Rows.RowStore.large _ _ _ _ _ c.len-end.result c.in-Some.is c.in_default.ensures.ok c.len-end.ensures g.met.O.ListWidth.same_width c.in-Err-push.ensures.cause

pub returns-in-Err-clause-cause : goal.returns-in-Err-clause-cause
returns-in-Err-clause-cause g c =
    item_refused (record { becomes = g.I.IntoIterator.into_iter_gives; steps = g.I.IntoIter.Iterator.next_gives; reads = g.M.TryExtend.reads_each }) _ _ _ _ _ _ _ c.in-Some.is c.in-Err.ensures.cause
