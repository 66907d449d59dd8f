use Rattle.std.proofs.Common.{◌≤◌, length, refl, sym, ap, ◌∙◌, arith}
use Rattle.nest_any.specs.Lent.{child_builder}
use Rattle.nest_any.specs.Refusals.{count_builders, struct_children}
use Rattle.nest_any.specs.Trees.{tree_of}
use Rattle.nest_any.proofs.Lent.{each-past}
use Rattle.nest_any.proofs.Types.{children-count}
use Rattle.nest_any.proofs.struct_.MutableStructArray.child_at.Goals as goal

pub value-requires : goal.value-requires
value-requires c =
    let v = c.self.inside.values in
    omega (arith, c.if-i-len.true, c.len.ensures, children-count tree_of v.items, ap (λ t. count_builders (struct_children t)) c.self.view_is, v.ok.0)

pub returns-else-i-len : goal.returns-else-i-len
returns-else-i-len c =
    let v = c.self.inside.values in
    let l : length v.items ≤ c.args.i = omega (arith, c.if-i-len.false, c.len.ensures, v.ok.0) in
    (refl, record { writes_back = tt; value = sym (each-past tree_of v.items c.args.i l) ∙ ap (child_builder c.args.i) c.self.view_is })
