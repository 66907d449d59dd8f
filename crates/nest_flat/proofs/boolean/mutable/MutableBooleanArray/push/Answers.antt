use Rattle.std.proofs.Common.{ap, ◌∙◌, false, if◌then◌else◌}
use Rattle.nest_memory.specs.TypeOf.{type_of}
use Rattle.nest_model.specs.Layout.{boolean}
use Rattle.nest_model.specs.Slot as slots
use Rattle.nest_flat.proofs.Grown.{made-truth, made-took, truth-item}
use Rattle.nest_flat.proofs.boolean.mutable.MutableBooleanArray.push.Goals as goal

pub returns-clause-grew : goal.returns-clause-grew
returns-clause-grew c =
    let t = type_of c.self.inside.data_type in
    let bs = c.self.inside.values in
    let x = c.unwrap_or.result in
    made-took (boolean t) slots.boolean false (made-truth t) bs c.push.new.self x c.self.inside.validity c.push-2.new.validity c.is_some.result c.len-len.result c.args.self.now _
    c.self.view_is c.in_ok-push.ensures.ok c.in_default.ensures.ok c.len-len.ensures c.self.invariant.1.0
    (ap (λ y. if c.is_some.result then slots.boolean y else slots.null) c.unwrap_or.ensures ∙ truth-item c.args.item c.is_some.result c.is_some.ensures)
