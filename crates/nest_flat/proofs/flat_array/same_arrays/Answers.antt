use Rattle.nest_flat.specs.Alike.{types-differ, lengths-differ, slots-decide}
use Rattle.nest_flat.proofs.flat_array.same_arrays.Goals as goal

pub returns-then-not-same_type : goal.returns-then-not-same_type
returns-then-not-same_type g c =
    types-differ (g.A.FlatArray.layout c.args.a) (g.A.FlatArray.layout c.args.b) _ _ _ c.type_of_slots.ensures c.type_of_slots-2.ensures c.eq-same_type.ensures.decides c.if-not-same_type.true

pub returns-then-count : goal.returns-then-count
returns-then-count g c = lengths-differ (g.A.FlatArray.layout c.args.a) (g.A.FlatArray.layout c.args.b) _ _ c.count.ensures c.count-2.ensures c.if-count.true

pub returns : goal.returns
returns g c =
    slots-decide (g.A.FlatArray.layout c.args.a) (g.A.FlatArray.layout c.args.b) _ _ _ _ c.type_of_slots.ensures c.type_of_slots-2.ensures c.eq-same_type.ensures.decides c.if-not-same_type.false
    c.same_slots.ensures
