use Rattle.std.proofs.Common.{ap, false}
use Rattle.nest_memory.specs.TypeOf.{type_of}
use Rattle.nest_model.specs.Layout.{Layout, boolean}
use Rattle.nest_model.specs.Meaning.{slots_of}
use Rattle.nest_model.specs.Slot as slots
use Rattle.nest_flat.proofs.Grown.{made-truth, made-joined}
use Rattle.nest_flat.proofs.boolean.mutable.MutableBooleanArray.append.Goals as goal

pub returns-clause-grew : goal.returns-clause-grew
returns-clause-grew c =
    let t = type_of c.self.inside.data_type in
    made-joined (boolean t) slots.boolean false (made-truth t) c.self.inside.values c.append.new.bits c.other.inside.values
    c.self.inside.validity c.join.new.validity c.other.inside.validity c.len-len.result c.len-more.result c.args.self.now c.args.other.now
    c.self.view_is (ap (λ (a : Layout). slots_of a) c.other.view_is) c.in_ok-append.ensures.ok c.in_default.ensures.ok
    c.len-len.ensures c.len-more.ensures c.self.invariant.1.0
