use Rattle.std.proofs.Common.{◌≡◌, false, length, get_or, ap, sym, ◌∙◌, subst, arith}
use Rattle.std.proofs.lemmas.List.{length-set, with_items_is}
use Rattle.std.specs.Vec.{with_items}
use Rattle.nest_model.specs.BuilderTree.{builder_len, struct}
use Rattle.nest_model.specs.BuilderComplete.{IsComplete, AreComplete, truncate_builder, truncate_builders}
use Rattle.nest_model.specs.BuilderAppend.{nulls_appended, nulls_appended_each}
use Rattle.nest_model.specs.BuilderAppendLaws.{nulls-zero}
use Rattle.nest_model.specs.BuilderRefusals.{nulls_pass}
use Rattle.nest_model.specs.BuilderAcceptLaws.{complete-nulls}
use Rattle.nest_any.specs.BuilderCode.{weight, weight_all}
use Rattle.nest_any.specs.Refusals.{AreEachLong}
use Rattle.nest_any.specs.Trees.{tree_of, trees_of}
use Rattle.nest_any.specs.TypedRows.{lists_over}
use Rattle.nest_any.proofs.Each.{weight-at, complete-at, refused, nulls-all, pass-none, child-passes, nulls-undone, done-next, below-next, left-next, long-took, each-undone}
use Rattle.nest_any.proofs.ListNulls.{child-refuses_at, null-fits}
use Rattle.nest_any.proofs.Nulls.{one_more, fits_more, refused_after}
use Rattle.nest_any.proofs.Over.{child-complete, weight-over}
use Rattle.nest_any.proofs.Weights.{weight-nulls}
use Rattle.nest_any.proofs.+null.Goals as goal

pub children::add_nulls-add_null-requires : goal.children::add_nulls-add_null-requires
children::add_nulls-add_null-requires t c =
    let b = tree_of c.args.child.now in
    let a = c.loop-i.invariant.added in
    (omega (arith, ap weight a, weight-nulls c.loop-i._i b), subst IsComplete (sym a) (complete-nulls c.loop-i._i b c.requires))

pub children::add_null_each-add_null-requires : goal.children::add_null_each-add_null-requires
children::add_null_each-add_null-requires t c =
    let d = c.index-children-i.result in
    let same = c.loop-i.invariant.left c.loop-i.i d (omega arith) in
    let w = weight-at tree_of c.args.children.now c.loop-i.i d (omega arith) in
    let h = complete-at tree_of c.args.children.now c.args.n c.loop-i.i d c.requires (omega arith) in
    rw same (omega arith, h.0)

pub lists::ListBuilder::add_null-add_nulls-requires : goal.lists::ListBuilder::add_null-add_nulls-requires
lists::ListBuilder::add_null-add_nulls-requires t c =
    let r = c.self.inside.rows in
    let b = tree_of c.self.inside.values.value in
    let w = subst IsComplete (sym c.self.view_is) c.requires in
    let v = ap tree_of c.deref_mut.ensures.value in
    let s = ap weight c.self.view_is in
    let k = ap weight v in
    (omega (arith, weight-over r b, s, k), subst IsComplete (sym v) (child-complete r b w))

pub struct_::MutableStructArray::add_null-add_null_each-requires : goal.struct_::MutableStructArray::add_null-add_null_each-requires
struct_::MutableStructArray::add_null-add_null_each-requires t c =
    let w = subst IsComplete (sym c.self.view_is) c.requires in
    let v = ap trees_of c.deref_mut.ensures.value in
    let s = ap weight c.self.view_is in
    let k = ap weight_all v in
    (omega (arith, s, k), subst (AreComplete (trees_of c.deref_mut.result.now)) (sym c.len-len.ensures) (subst (λ cs. AreComplete cs (length c.self.inside.rows)) (sym v) w.0))

pub children::add_nulls-loop-i-init : goal.children::add_nulls-loop-i-init
children::add_nulls-loop-i-init t c = record { added = sym (nulls-zero (tree_of c.args.child.now)); fits = λ h. absurd (omega (arith, h)) }

pub children::add_nulls-loop-i-preserved : goal.children::add_nulls-loop-i-preserved
children::add_nulls-loop-i-preserved t c =
    let b = tree_of c.args.child.now in
    record {
      added = one_more b (tree_of c.loop-i.child) (tree_of c.add_null.new.self) c.loop-i._i c.loop-i.invariant.added c.in-Ok.ensures.ok;
      fits = λ h. fits_more b (tree_of c.loop-i.child) c.loop-i._i c.loop-i.invariant.added c.loop-i.invariant.fits c.in-Ok.ensures.room;
    }

pub children::add_nulls-cut-requires-clause-complete : goal.children::add_nulls-cut-requires-clause-complete
children::add_nulls-cut-requires-clause-complete t c = subst IsComplete (sym (c.in-Err.ensures.err ∙ c.loop-i.invariant.added)) (complete-nulls c.loop-i._i (tree_of c.args.child.now) c.requires)

pub children::add_nulls-returns-in-Err-clause-err : goal.children::add_nulls-returns-in-Err-clause-err
children::add_nulls-returns-in-Err-clause-err t c =
    let b = tree_of c.args.child.now in
    c.cut.ensures
    ∙ (ap (λ x. truncate_builder x c.len-len.result) (c.in-Err.ensures.err ∙ c.loop-i.invariant.added)
    ∙ (ap (truncate_builder (nulls_appended c.loop-i._i b)) c.len-len.ensures ∙ nulls-undone c.loop-i._i b c.requires))

pub children::add_nulls-returns-in-Err-clause-cause : goal.children::add_nulls-returns-in-Err-clause-cause
children::add_nulls-returns-in-Err-clause-cause t c = refused_after (tree_of c.args.child.now) (tree_of c.loop-i.child) c.loop-i._i c.args.n c.in-Err.error (omega arith) c.loop-i.invariant.added c.in-Err.ensures.cause

pub children::add_nulls-returns-clause-room : goal.children::add_nulls-returns-clause-room
children::add_nulls-returns-clause-room t c = λ h.
    let e : c.loop-i._i ≡ c.args.n = omega arith in
    ap (λ m. nulls_pass m (tree_of c.args.child.now)) (sym e) ∙ c.loop-i.invariant.fits (omega (arith, h, e))

pub children::add_null_each-cut_each-requires : goal.children::add_null_each-cut_each-requires
children::add_null_each-cut_each-requires t c =
    (refused tree_of c.args.children.now c.loop-i.children c.loop-i.i c.args.n c.index-children-i.result c.add_null.new.self c.loop-i.invariant.same_length (omega arith) c.requires c.loop-i.invariant.left c.loop-i.invariant.done c.index-children-i.is (c.in-Err.ensures.err ∙ sym (ap tree_of c.index-children-i.is))).0

pub children::add_null_each-returns-in-Err-clause-err : goal.children::add_null_each-returns-in-Err-clause-err
children::add_null_each-returns-in-Err-clause-err t c =
    c.cut_each.ensures
    ∙ (refused tree_of c.args.children.now c.loop-i.children c.loop-i.i c.args.n c.index-children-i.result c.add_null.new.self c.loop-i.invariant.same_length (omega arith) c.requires c.loop-i.invariant.left c.loop-i.invariant.done c.index-children-i.is (c.in-Err.ensures.err ∙ sym (ap tree_of c.index-children-i.is))).1

pub children::add_null_each-returns-in-Err-clause-cause : goal.children::add_null_each-returns-in-Err-clause-cause
children::add_null_each-returns-in-Err-clause-cause t c =
    let d = c.index-children-i.result in
    child-passes tree_of c.args.children.now c.loop-i.i d (tree_of (get_or c.loop-i.children c.loop-i.i d)) c.in-Err.error (omega arith) (ap tree_of (c.loop-i.invariant.left c.loop-i.i d (omega arith))) c.in-Err.ensures.cause

pub children::add_null_each-loop-i-preserved : goal.children::add_null_each-loop-i-preserved
children::add_null_each-loop-i-preserved t c =
    let d = c.index-children-i.result in
    let e = ap tree_of (c.loop-i.invariant.left c.loop-i.i d (omega arith)) in
    record {
      same_length = length-set c.loop-i.children c.loop-i.i c.add_null.new.self ∙ c.loop-i.invariant.same_length;
      done = done-next tree_of (nulls_appended 1) c.loop-i.children c.args.children.now c.loop-i.i c.add_null.new.self d c.loop-i.invariant.same_length (omega arith) c.loop-i.invariant.done (c.in-Ok.ensures.ok ∙ ap (nulls_appended 1) e);
      fits = below-next tree_of (λ b. nulls_pass 1 b ≡ false) c.args.children.now c.loop-i.i d (omega arith) c.loop-i.invariant.fits (ap (nulls_pass 1) (sym e) ∙ c.in-Ok.ensures.room);
      left = left-next c.loop-i.children c.args.children.now c.loop-i.i c.add_null.new.self c.loop-i.invariant.left;
    }

pub children::add_null_each-returns-clause-ok : goal.children::add_null_each-returns-clause-ok
children::add_null_each-returns-clause-ok t c = nulls-all tree_of c.loop-i.children c.args.children.now 1 c.loop-i.invariant.same_length (λ k d h. c.loop-i.invariant.done k d (omega arith))

pub children::add_null_each-returns-clause-room : goal.children::add_null_each-returns-clause-room
children::add_null_each-returns-clause-room t c = pass-none tree_of c.args.children.now 1 (λ k d h. c.loop-i.invariant.fits k d (omega arith))

pub lists::ListBuilder::add_null-returns-in-Err-clause-cause : goal.lists::ListBuilder::add_null-returns-in-Err-clause-cause
lists::ListBuilder::add_null-returns-in-Err-clause-cause t c =
    child-refuses_at c.self.inside.rows (tree_of c.self.inside.values.value) (tree_of c.deref_mut.result.now) _ c.child_nulls-nulls.result c.in-Err.refusal c.self.view_is c.child_nulls-nulls.ensures.value (ap tree_of c.deref_mut.ensures.value) c.in-Err.ensures.cause

pub lists::ListBuilder::add_null-cut-requires-clause-complete : goal.lists::ListBuilder::add_null-cut-requires-clause-complete
lists::ListBuilder::add_null-cut-requires-clause-complete t c =
    let b = tree_of c.self.inside.values.value in
    let n = c.child_nulls-nulls.result in
    let w = subst IsComplete (sym c.self.view_is) c.requires in
    let now = ap tree_of c.deref_mut-in-Err-push_null.ensures.value ∙ (c.in_default.ensures.ok ∙ ap (λ x. nulls_appended n (tree_of x)) c.deref_mut.ensures.value) in
    subst IsComplete (sym now) (complete-nulls n b (child-complete c.self.inside.rows b w))

pub lists::ListBuilder::add_null-returns-in-Err-push_null-clause-err : goal.lists::ListBuilder::add_null-returns-in-Err-push_null-clause-err
lists::ListBuilder::add_null-returns-in-Err-push_null-clause-err t c =
    let b = tree_of c.self.inside.values.value in
    let n = c.child_nulls-nulls.result in
    let w = subst IsComplete (sym c.self.view_is) c.requires in
    let now = ap tree_of c.deref_mut-in-Err-push_null.ensures.value ∙ (c.in_default.ensures.ok ∙ ap (λ x. nulls_appended n (tree_of x)) c.deref_mut.ensures.value) in
    let long = c.len-len.ensures ∙ ap (λ x. builder_len (tree_of x)) c.deref.ensures in
    let back = c.cut.ensures ∙ (ap (λ x. truncate_builder x c.len-len.result) now ∙ (ap (truncate_builder (nulls_appended n b)) long ∙ nulls-undone n b (child-complete c.self.inside.rows b w))) in
    ap (lists_over c.push_null.new.self) back ∙ (c.in-Err-push_null.ensures.err b ∙ c.self.view_is)

pub lists::ListBuilder::add_null-returns-in-Ok-clause-room : goal.lists::ListBuilder::add_null-returns-in-Ok-clause-room
lists::ListBuilder::add_null-returns-in-Ok-clause-room t c =
    let r = c.self.inside.rows in
    let b = tree_of c.self.inside.values.value in
    let n = c.child_nulls-nulls.result in
    let q = c.child_nulls-nulls.ensures.value in
    let v = ap tree_of c.deref_mut.ensures.value in
    let w = subst IsComplete (sym c.self.view_is) c.requires in
    let e = c.in_default.ensures.ok ∙ (ap (nulls_appended n) v ∙ ap (λ m. nulls_appended m b) q) in
    let l = c.len-items.ensures ∙ ap (λ x. builder_len (tree_of x)) c.deref-2.ensures in
    subst (λ x. nulls_pass 1 x ≡ false) c.self.view_is
    (null-fits r b (tree_of c.add_nulls.new.child) c.len-items.result w c.child_nulls-nulls.ensures.some
    (λ h. ap (λ m. nulls_pass m b) (sym q) ∙ (ap (nulls_pass n) (sym v) ∙ c.in_default.ensures.room (omega (arith, h, q)))) e l (omega (arith, c.len-items.type_inv)) c.in-Ok.ensures.room)

pub struct_::MutableStructArray::add_null-cut_each-requires : goal.struct_::MutableStructArray::add_null-cut_each-requires
struct_::MutableStructArray::add_null-cut_each-requires t c =
    let cs = trees_of c.self.inside.values.items in
    let n = length c.self.inside.rows in
    let w = subst IsComplete (sym c.self.view_is) c.requires in
    let l : length c.add_null_each.new.children ≡ c.self.inside.values.len = omega (arith, c.add_null_each.auto.children, c.deref_mut.ensures.len) in
    let i = with_items_is c.self.inside.values c.add_null_each.new.children l in
    let now = ap trees_of (c.deref_mut-in-Err-push.ensures.value ∙ i) ∙ (c.in_default.ensures.ok ∙ ap (λ xs. nulls_appended_each 1 (trees_of xs)) c.deref_mut.ensures.value) in
    subst (AreEachLong (trees_of c.deref_mut-in-Err-push.result.now)) (sym c.len-len.ensures) (subst (λ xs. AreEachLong xs n) (sym now) (long-took cs n w.0))

pub struct_::MutableStructArray::add_null-returns-in-Err-push-clause-err : goal.struct_::MutableStructArray::add_null-returns-in-Err-push-clause-err
struct_::MutableStructArray::add_null-returns-in-Err-push-clause-err t c =
    let cs = trees_of c.self.inside.values.items in
    let n = length c.self.inside.rows in
    let w = subst IsComplete (sym c.self.view_is) c.requires in
    let l : length c.add_null_each.new.children ≡ c.self.inside.values.len = omega (arith, c.add_null_each.auto.children, c.deref_mut.ensures.len) in
    let i = with_items_is c.self.inside.values c.add_null_each.new.children l in
    let now = ap trees_of (c.deref_mut-in-Err-push.ensures.value ∙ i) ∙ (c.in_default.ensures.ok ∙ ap (λ xs. nulls_appended_each 1 (trees_of xs)) c.deref_mut.ensures.value) in
    let back = c.cut_each.ensures ∙ (ap (λ xs. truncate_builders xs c.len-len.result) now ∙ (ap (truncate_builders (nulls_appended_each 1 cs)) c.len-len.ensures ∙ each-undone cs n w.0)) in
    let v = with_items c.self.inside.values c.add_null_each.new.children in
    let m : length c.cut_each.new.children ≡ v.len = omega (arith, c.cut_each.auto.children, c.deref_mut-in-Err-push.ensures.len) in
    let j = with_items_is v c.cut_each.new.children m in
    ap (λ xs. struct c.self.inside.data_type c.push.new.self (trees_of xs)) j
    ∙ (ap (struct c.self.inside.data_type c.push.new.self) back
    ∙ (ap (λ bits. struct c.self.inside.data_type bits cs) c.in-Err-push.ensures.err ∙ c.self.view_is))
