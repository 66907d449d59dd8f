use Rattle.std.proofs.Common.{ap, arith}
use Rattle.nest_any.specs.BuilderCode.{weight}
use Rattle.nest_any.specs.Trees.{tree_of}
use Rattle.nest_any.proofs.Each.{weight-at}
use Rattle.nest_any.proofs.+complete.Goals as goal

pub children::each_is_complete-complete-requires : goal.children::each_is_complete-complete-requires
children::each_is_complete-complete-requires t c =
    let d = c.index-children-i.result in
    let w = weight-at tree_of c.args.children.now c.loop-i.i d (omega arith) in
    let e = ap (λ x. weight (tree_of x)) c.index-children-i.is in
    (omega (arith, w, e), tt)
