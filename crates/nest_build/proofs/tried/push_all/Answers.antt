use Rattle.std.proofs.Common.{[], ◌∷◌, ◌++◌, arith, refl, sym, ◌∙◌}
use Rattle.std.proofs.iter.Next.{Yields-more}
use Rattle.std.specs.Vec.Iter.{into_iter_items, into_iter_steps}
use Rattle.nest_model.specs.BuilderReadingLaws.{took_none, tried}
use Rattle.nest_build.proofs.Trials.{taken_front, room-left, length-last}
use Rattle.nest_build.proofs.tried.push_all.Goals as goal

pub try_push-requires-clause-complete : goal.try_push-requires-clause-complete
try_push-requires-clause-complete g c =
    let so_far = c.loop-item.invariant.2 in
    so_far.2.complete

pub loop-item-preserved : goal.loop-item-preserved
loop-item-preserved g c =
    let it = c.into_iter-item-iterator in
    let more = Yields-more into_iter_steps it.result c.loop-item.yielded c.loop-item.item-iterator c.in-Some.item c.next.new.self c.loop-item.yielded_by c.in-Some.ensures.steps in
    let front = taken_front it.result (c.loop-item.yielded ++ c.in-Some.item ∷ []) c.next.new.self more in
    let given = it.ensures.into_iter_gives in
    let next = tried g.B.TryPush.reads c.loop-item.marks.items c.loop-item.yielded c.in-Some.item c.try_push.result _ _ _ c.loop-item.invariant.0 c.loop-item.invariant.2 c.try_push.ensures.ok c.try_push.ensures.err in
    let room = room-left c.args.items.items c.loop-item.yielded (into_iter_items c.next.new.self) c.in-Some.item (sym given.0 ∙ front) in
    let fits = c.push.ensures.succeeds (omega (arith, c.loop-item.marks.ok.0, c.loop-item.invariant.0, c.loop-item.invariant.1, room)) in
    let marked = rw fits at c.push.ensures.items in
    (length-last _ _ c.loop-item.yielded _ c.in-Some.item marked c.loop-item.invariant.0, omega (arith, c.push.ensures.capacity, c.loop-item.invariant.1), rw (marked, c.is_ok-accepted.ensures.value) next)

pub loop-item-init : goal.loop-item-init
loop-item-init g c =
    let none = took_none g.B.TryPush.reads (g.B.MutableArray.model c.args.builder.now) c.requires.complete in
    rw c.in_ok-marks.ensures.items (refl, omega (arith, c.in_ok-marks.ensures.capacity, c.len.ensures), none)
