use Rattle.std.proofs.Common.{◌≡◌, ap, sym, ◌∙◌, map, length, [], ◌++◌, rules}
use Rattle.std.proofs.lemmas.List.{map-append, length-map}
use Rattle.nest_memory.specs.TypeOf.{type_of}
use Rattle.nest_model.specs.Layout.{Layout, primitive}
use Rattle.nest_model.specs.Meaning.{slots_of}
use Rattle.nest_model.specs.Slot as slots
use Rattle.nest_flat.proofs.Grown.{made-native, made-joined}
use Rattle.nest_flat.proofs.primitive.mutable.MutablePrimitiveArray.append.Goals as goal

pub returns-clause-grew : goal.returns-clause-grew
returns-clause-grew g c =
    let k = g.T.NativeType.PRIMITIVE in
    let num = g.T.NativeType.numbers in
    let t = type_of c.self.inside.data_type in
    let vs = c.self.inside.values.items in
    let ws = c.other.inside.values.items in
    let items : c.extend_from_slice.new.self.items ≡ vs ++ ws = search rules in
    let count : c.len-len.result ≡ length vs = search rules in
    let more : c.len-more-2.result ≡ length ws = search rules in
    made-joined (primitive k t) slots.number [] (made-native k t) (map num vs) (map num c.extend_from_slice.new.self.items) (map num ws)
    c.self.inside.validity c.join.new.validity c.other.inside.validity c.len-len.result c.len-more-2.result c.args.self.now c.args.other.now
    c.self.view_is (ap (λ (a : Layout). slots_of a) c.other.view_is) (ap (map num) items ∙ map-append num vs ws) c.in_default.ensures.ok
    (count ∙ sym (length-map vs num)) (more ∙ sym (length-map ws num)) c.self.invariant.1.0
