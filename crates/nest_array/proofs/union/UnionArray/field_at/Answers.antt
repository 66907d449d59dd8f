use Rattle.std.proofs.Common.{ap, sym, arith}
use Rattle.nest_model.specs.Accessors.{children_of}
use Rattle.nest_model.specs.Layout.{count_layouts}
use Rattle.nest_array.proofs.Children.{layouts-count}
use Rattle.nest_array.proofs.Picks.{child-there, child-lighter}
use Rattle.nest_array.proofs.union.UnionArray.field_at.Goals as goal

pub bounds-fields-f : goal.bounds-fields-f
bounds-fields-f c =
    let n = layouts-count c.fields-fields.result.now in
    let e = ap count_layouts c.fields-fields.ensures in
    omega (arith, n, e, c.requires)

pub returns-clause-shown : goal.returns-clause-shown
returns-clause-shown c = sym (child-there _ (children_of c.args.self.now) _ _ c.fields-fields.ensures c.requires c.index-fields-f.is)

pub returns-clause-lighter : goal.returns-clause-lighter
returns-clause-lighter c = let w = child-lighter c.args.self.now _ _ _ c.known.ensures.kind c.fields-fields.ensures c.requires c.index-fields-f.is in omega (arith, w)
