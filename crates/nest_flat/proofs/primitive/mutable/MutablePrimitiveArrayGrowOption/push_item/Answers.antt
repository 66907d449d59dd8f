use Rattle.std.proofs.Common.{◌≡◌, ap, sym, ◌∙◌, map, length, [], ◌∷◌, ◌++◌, rules}
use Rattle.std.proofs.lemmas.List.{map_push, length-map}
use Rattle.nest_memory.specs.TypeOf.{type_of}
use Rattle.nest_model.specs.Layout.{primitive}
use Rattle.nest_model.specs.Slot as slots
use Rattle.nest_flat.specs.Growth.{zeros}
use Rattle.nest_flat.proofs.Grown.{made-native, made-took, native-item}
use Rattle.nest_flat.proofs.primitive.mutable.MutablePrimitiveArrayGrowOption.push_item.Goals as goal

pub returns-clause-grew : goal.returns-clause-grew
returns-clause-grew g c =
    let k = g.T.NativeType.PRIMITIVE in
    let num = g.T.NativeType.numbers in
    let t = type_of c.self.inside.data_type in
    let vs = c.self.inside.values.items in
    let v = c.value_or_zero.result in
    let items : c.push.new.self.items ≡ vs ++ v ∷ [] = search rules in
    let count : c.len-len.result ≡ length vs = search rules in
    made-took (primitive k t) slots.number [] (made-native k t) (map num vs) (map num c.push.new.self.items) (num v) c.self.inside.validity c.push-2.new.validity c.is_some.result c.len-len.result _ _
    c.self.view_is (ap (map num) items ∙ map_push num vs v) c.in_default.ensures.ok (count ∙ sym (length-map vs num)) c.self.invariant.1.0
    (native-item num c.args.item v (zeros k) c.is_some.result c.is_some.ensures c.value_or_zero.ensures)
