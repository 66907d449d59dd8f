use Rattle.std.proofs.Common.{ap, sym, ◌∙◌, map, []}
use Rattle.std.proofs.lemmas.List.{take-map}
use Rattle.nest_memory.specs.TypeOf.{type_of}
use Rattle.nest_model.specs.Layout.{primitive}
use Rattle.nest_model.specs.Slot as slots
use Rattle.nest_flat.proofs.Grown.{made-native, made-taken}
use Rattle.nest_flat.proofs.primitive.mutable.MutablePrimitiveArrayGrowOption.rollback.Goals as goal

pub returns : goal.returns
returns g c =
    let k = g.T.NativeType.PRIMITIVE in
    let num = g.T.NativeType.numbers in
    let t = type_of c.self.inside.data_type in
    let vs = c.self.inside.values.items in
    let values = ap (map num) c.truncate.ensures.items ∙ sym (take-map num c.args.n vs) in
    made-taken (primitive k t) slots.number [] (made-native k t) (map num vs) (map num c.truncate.new.self.items) c.self.inside.validity c.rollback.new.validity c.args.n c.args.masked _
    c.self.view_is values c.rollback.ensures
