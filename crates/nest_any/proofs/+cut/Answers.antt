use Rattle.std.proofs.Common.{◌≤◌, length, ap, sym, subst, arith}
use Rattle.nest_model.specs.BuilderTree.{builder_len}
use Rattle.nest_model.specs.BuilderComplete.{IsComplete}
use Rattle.nest_any.specs.BuilderCode.{weight, weight_all}
use Rattle.nest_any.specs.Refusals.{AreEachLong}
use Rattle.nest_any.specs.Trees.{tree_of, trees_of}
use Rattle.nest_any.proofs.Each.{weight-at, long-at, long-complete, cut-all}
use Rattle.nest_any.proofs.Over.{child-complete, needed-within, weight-over}
use Rattle.nest_any.proofs.+cut.Goals as goal

pub children::cut_each-cut-requires : goal.children::cut_each-cut-requires
children::cut_each-cut-requires t c =
    let d = c.index-children-i.result in
    let same = c.loop-i.invariant.left c.loop-i.i d (omega arith) in
    let w = weight-at tree_of c.args.children.now c.loop-i.i d (omega arith) in
    let h = long-at tree_of c.args.children.now c.args.n c.loop-i.i d c.requires (omega arith) in
    rw same (omega arith, (h.0, h.1))

pub children::cut_each-returns : goal.children::cut_each-returns
children::cut_each-returns t c = cut-all tree_of c.loop-i.children c.args.children.now c.args.n c.loop-i.invariant.same_length (λ k d h. c.loop-i.invariant.done k d (omega arith))

pub lists::ListBuilder::cut-truncate-end-requires-clause-items : goal.lists::ListBuilder::cut-truncate-end-requires-clause-items
lists::ListBuilder::cut-truncate-end-requires-clause-items t c =
    let r = c.self.inside.rows in
    let b = tree_of c.self.inside.values.value in
    let w = subst IsComplete (sym c.self.view_is) c.requires.complete in
    let l = subst (λ x. c.args.n ≤ builder_len x) (sym c.self.view_is) c.requires.within in
    let v = ap (λ x. builder_len (tree_of x)) c.deref.ensures in
    omega (arith, needed-within r b c.args.n w l, c.len-items.ensures, v)

pub lists::ListBuilder::cut-cut-requires : goal.lists::ListBuilder::cut-cut-requires
lists::ListBuilder::cut-cut-requires t c =
    let r = c.self.inside.rows in
    let b = tree_of c.self.inside.values.value in
    let w = subst IsComplete (sym c.self.view_is) c.requires.complete in
    let l = subst (λ x. c.args.n ≤ builder_len x) (sym c.self.view_is) c.requires.within in
    let v = ap tree_of c.deref_mut.ensures.value in
    let s = ap weight c.self.view_is in
    let k = ap weight v in
    let m = ap builder_len v in
    (omega (arith, weight-over r b, s, k), (subst IsComplete (sym v) (child-complete r b w), omega (arith, needed-within r b c.args.n w l, c.truncate-end.ensures.end, m)))

pub struct_::MutableStructArray::cut-cut_each-requires : goal.struct_::MutableStructArray::cut-cut_each-requires
struct_::MutableStructArray::cut-cut_each-requires t c =
    let w = subst IsComplete (sym c.self.view_is) c.requires.complete in
    let l = subst (λ x. c.args.n ≤ builder_len x) (sym c.self.view_is) c.requires.within in
    let v = ap trees_of c.deref_mut.ensures.value in
    let s = ap weight c.self.view_is in
    let k = ap weight_all v in
    (omega (arith, s, k), subst (λ cs. AreEachLong cs c.args.n) (sym v) (long-complete (trees_of c.self.inside.values.items) (length c.self.inside.rows) c.args.n w.0 l))
