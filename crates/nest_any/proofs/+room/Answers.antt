use Rattle.std.proofs.Common.{◌≡◌, false, sym, get_or, ap, ◌∙◌, arith}
use Rattle.std.proofs.lemmas.List.{length-set}
use Rattle.nest_build.specs.Shown.{reserve_passes}
use Rattle.nest_any.specs.BuilderCode.{weight, weight_all}
use Rattle.nest_any.specs.Trees.{tree_of, trees_of}
use Rattle.nest_any.proofs.Each.{weight-at, each-set, same-all, set-at, below-next}
use Rattle.nest_any.proofs.Over.{weight-over}
use Rattle.nest_any.proofs.Rooms.{reserve-none, child-lacks_room}
use Rattle.nest_any.proofs.+room.Goals as goal

pub children::room_each-room-requires : goal.children::room_each-room-requires
children::room_each-room-requires t c =
    let d = c.index-children-i.result in
    let s = ap weight (c.loop-i.invariant.same c.loop-i.i d) in
    let w = weight-at tree_of c.args.children.now c.loop-i.i d (omega arith) in
    let e = ap (λ x. weight (tree_of x)) c.index-children-i.is in
    (omega (arith, w, s, e), tt)

pub children::room_each-returns-clause-same : goal.children::room_each-returns-clause-same
children::room_each-returns-clause-same t c = same-all tree_of c.loop-i.children c.args.children.now c.loop-i.invariant.same_length (λ k d h. c.loop-i.invariant.same k d)

pub children::room_each-returns-clause-room : goal.children::room_each-returns-clause-room
children::room_each-returns-clause-room t c = reserve-none tree_of c.args.children.now c.args.additional (λ k d h. c.loop-i.invariant.fits k d (omega arith))

pub children::room_each-returns-in-Err-clause-same : goal.children::room_each-returns-in-Err-clause-same
children::room_each-returns-in-Err-clause-same t c =
    each-set tree_of c.loop-i.children c.loop-i.i c.room.new.self c.index-children-i.result c.room.ensures.same
    ∙ same-all tree_of c.loop-i.children c.args.children.now c.loop-i.invariant.same_length (λ k d h. c.loop-i.invariant.same k d)

pub children::room_each-returns-in-Err-clause-cause : goal.children::room_each-returns-in-Err-clause-cause
children::room_each-returns-in-Err-clause-cause t c =
    let d = c.index-children-i.result in
    child-lacks_room tree_of c.args.children.now c.args.additional c.loop-i.i d (tree_of (get_or c.loop-i.children c.loop-i.i d)) c.in-Err.refusal (omega arith) (c.loop-i.invariant.same c.loop-i.i d) c.in-Err.ensures.cause

pub children::room_each-loop-i-preserved : goal.children::room_each-loop-i-preserved
children::room_each-loop-i-preserved t c =
    let d = c.index-children-i.result in
    let now = c.loop-i.invariant.same c.loop-i.i d in
    record {
      same_length = length-set c.loop-i.children c.loop-i.i c.room.new.self ∙ c.loop-i.invariant.same_length;
      same = λ k x. set-at tree_of c.loop-i.children c.loop-i.i k c.room.new.self x d (omega arith) c.room.ensures.same ∙ c.loop-i.invariant.same k x;
      fits = below-next tree_of (λ b. reserve_passes c.args.additional b ≡ false) c.args.children.now c.loop-i.i d (omega arith) c.loop-i.invariant.fits (ap (reserve_passes c.args.additional) (sym now) ∙ c.in_default.ensures.room);
    }

pub lists::ListBuilder::room-room-requires : goal.lists::ListBuilder::room-room-requires
lists::ListBuilder::room-room-requires t c =
    let s = ap weight c.self.view_is in
    let k = ap (λ x. weight (tree_of x)) c.deref_mut.ensures.value in
    (omega (arith, weight-over c.self.inside.rows (tree_of c.self.inside.values.value), s, k), tt)

pub struct_::MutableStructArray::room-room_each-requires : goal.struct_::MutableStructArray::room-room_each-requires
struct_::MutableStructArray::room-room_each-requires t c =
    let s = ap weight c.self.view_is in
    let k = ap (λ xs. weight_all (trees_of xs)) c.deref_mut.ensures.value in
    (omega (arith, s, k), tt)
