use Rattle.std.proofs.Common.{◌≡◌, length, ap, arith}
use Rattle.nest_model.specs.Layout.{weight, weight_all}
use Rattle.nest_array.specs.Seen.{layout_of}
use Rattle.nest_array.proofs.Children.{weight-at, same-all}
use Rattle.nest_array.proofs.+clone.Goals as goal

pub any::boxed_union-clone_all-requires : goal.any::boxed_union-clone_all-requires
any::boxed_union-clone_all-requires t c =
    let w = ap weight c.known.ensures.kind in
    let v = ap weight_all c.fields.ensures in
    (omega (arith, w, v), tt)

pub struct_::clone_all-clone-requires : goal.struct_::clone_all-clone-requires
struct_::clone_all-clone-requires t c =
    let e = ap (λ a. weight (layout_of a)) c.index-children-i.is in
    let w = weight-at c.args.children.now c.loop-i.i c.index-children-i.result (omega arith) in
    (omega arith, tt)

pub struct_::clone_all-returns-clause-ok : goal.struct_::clone_all-returns-clause-ok
struct_::clone_all-returns-clause-ok t c =
    let l : length c.loop-i.copies.items ≡ length c.args.children.now = omega (arith, c.loop-i.invariant.same_length) in
    same-all c.loop-i.copies.items c.args.children.now l (λ k d h. c.loop-i.invariant.done k d (omega arith))
