use Rattle.std.proofs.Common.{[], ◌∷◌, ◌++◌, refl, rules, arith}
use Rattle.std.specs.Prelude.{Some}
use Rattle.std.proofs.iter.Next.{Yields-more}
use Rattle.std.proofs.lemmas.List.Elements.{All-pop}
use Rattle.nest_model.specs.BuilderAppendLaws.{len-accepted_all}
use Rattle.nest_model.specs.BuilderReadingLaws.{took_none, took_more, refused_some}
use Rattle.nest_build.proofs.push.extend_by_push.Goals as goal

pub try_push-requires-clause-complete : goal.try_push-requires-clause-complete
try_push-requires-clause-complete g c =
    let so_far = c.loop-item.invariant.2 in
    so_far.2.complete

pub try_push-requires-clause-can : goal.try_push-requires-clause-can
try_push-requires-clause-can g c =
    let it = c.into_iter-item-iterator in
    let xs = c.loop-item.yielded in
    let x = c.in-Some.item in
    let more = Yields-more g.I.IntoIter.Iterator.next_gives it.result xs c.loop-item.item-iterator x c.next.new.self c.loop-item.yielded_by c.in-Some.ensures.steps in
    (All-pop g.B.TryPush.can_push (xs ++ x ∷ []) xs (Some x) refl ((c.requires.can it.result it.ensures.into_iter_gives).2 (xs ++ x ∷ []) c.next.new.self more)).1

pub loop-item-init : goal.loop-item-init
loop-item-init g c = (search rules, search rules, took_none g.B.TryPush.reads _ c.requires.complete)

pub loop-item-preserved : goal.loop-item-preserved
loop-item-preserved g c =
    (search rules, search rules, took_more g.B.TryPush.reads _ _ _ _ _ c.loop-item.invariant.2 c.in-Ok.ensures.ok)

pub truncate-requires-clause-complete : goal.truncate-requires-clause-complete
truncate-requires-clause-complete g c =
    let so_far = c.loop-item.invariant.2 in
    rw c.in-Err.ensures.err (so_far.2.complete)

pub truncate-requires-clause-within : goal.truncate-requires-clause-within
truncate-requires-clause-within g c =
    let so_far = c.loop-item.invariant.2 in
    let l = len-accepted_all so_far.0 _ _ so_far.2 in
    rw (c.len-len.ensures, c.in-Err.ensures.err) (omega (arith, l))

pub returns-in-Err-clause-err : goal.returns-in-Err-clause-err
returns-in-Err-clause-err g c =
    let so_far = c.loop-item.invariant.2 in
    rw (c.truncate.ensures, c.in-Err.ensures.err, c.len-len.ensures) (so_far.2.undo)

pub returns-in-Err-clause-cause : goal.returns-in-Err-clause-cause
returns-in-Err-clause-cause g c =
    let it = c.into_iter-item-iterator in
    let xs = c.loop-item.yielded in
    let x = c.in-Some.item in
    let more = Yields-more g.I.IntoIter.Iterator.next_gives it.result xs c.loop-item.item-iterator x c.next.new.self c.loop-item.yielded_by c.in-Some.ensures.steps in
    refused_some
    (record { becomes = g.I.IntoIterator.into_iter_gives; steps = g.I.IntoIter.Iterator.next_gives; reads = g.B.TryPush.reads }) _ xs x _ _ _ (it.result, c.next.new.self, it.ensures.into_iter_gives, more) c.loop-item.invariant.2 c.in-Err.ensures.cause
