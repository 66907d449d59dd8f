use Rattle.std.proofs.Common.{ap, ◌∙◌, arith}
use Rattle.nest_any.specs.BuilderCode.{weight, weight_all}
use Rattle.nest_any.specs.Trees.{tree_of, trees_of}
use Rattle.nest_any.proofs.Each.{weight-at, each-set, same-all}
use Rattle.nest_any.proofs.Over.{weight-over}
use Rattle.nest_any.proofs.+shrink.Goals as goal

pub children::shrink_each-shrink-requires : goal.children::shrink_each-shrink-requires
children::shrink_each-shrink-requires t c =
    let d = c.index-children-i.result in
    let s = ap weight (c.loop-i.invariant.same c.loop-i.i d) in
    let w = weight-at tree_of c.args.children.now c.loop-i.i d (omega arith) in
    let e = ap (λ x. weight (tree_of x)) c.index-children-i.is in
    (omega (arith, w, s, e), tt)

pub children::shrink_each-returns-clause-same : goal.children::shrink_each-returns-clause-same
children::shrink_each-returns-clause-same t c = same-all tree_of c.loop-i.children c.args.children.now c.loop-i.invariant.same_length (λ k d h. c.loop-i.invariant.same k d)

pub children::shrink_each-returns-in-Err-clause-same : goal.children::shrink_each-returns-in-Err-clause-same
children::shrink_each-returns-in-Err-clause-same t c =
    each-set tree_of c.loop-i.children c.loop-i.i c.shrink.new.self c.index-children-i.result c.shrink.ensures.same
    ∙ same-all tree_of c.loop-i.children c.args.children.now c.loop-i.invariant.same_length (λ k d h. c.loop-i.invariant.same k d)

pub lists::ListBuilder::shrink-shrink-requires : goal.lists::ListBuilder::shrink-shrink-requires
lists::ListBuilder::shrink-shrink-requires t c =
    let s = ap weight c.self.view_is in
    let k = ap (λ x. weight (tree_of x)) c.deref_mut.ensures.value in
    (omega (arith, weight-over c.self.inside.rows (tree_of c.self.inside.values.value), s, k), tt)

pub struct_::MutableStructArray::shrink-shrink_each-requires : goal.struct_::MutableStructArray::shrink-shrink_each-requires
struct_::MutableStructArray::shrink-shrink_each-requires t c =
    let s = ap weight c.self.view_is in
    let k = ap (λ xs. weight_all (trees_of xs)) c.deref_mut.ensures.value in
    (omega (arith, s, k), tt)
