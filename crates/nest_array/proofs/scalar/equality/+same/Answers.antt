use Rattle.std.proofs.Common.{◌≡◌, ◌<◌, true, false, length, ap, sym, subst, ◌∙◌, arith}
use Rattle.nest_memory.specs.TypeOf.{type_of}
use Rattle.nest_memory.specs.TypeTree.{item_type}
use Rattle.nest_model.specs.Slot as slots
use Rattle.nest_model.specs.Slot.{seal, node_count}
use Rattle.nest_array.specs.SeenScalar.{ValueFits, shown_type, slot_of_value}
use Rattle.nest_array.proofs.SameScalars.{lists-one, types-one, slots-count, type-at, nodes-at}
use Rattle.nest_array.proofs.scalar.equality.+same.Goals as goal

pub same_value-returns-in-List-List : goal.same_value-returns-in-List-List
same_value-returns-in-List-List t c =
    let ea = sym (ap (λ p. p.slot) c.a.view_is) ∙ ap slot_of_value c.in-List-List.is-0 in
    let eb = sym (ap (λ p. p.slot) c.b.view_is) ∙ ap slot_of_value c.in-List-List.is-1 in
    let fa = subst (ValueFits (type_of c.a.inside.data_type)) c.in-List-List.is-0 c.a.invariant in
    let fb = subst (ValueFits (type_of c.b.inside.data_type)) c.in-List-List.is-1 c.b.invariant in
    let same = ap (λ p. p.data_type) c.a.view_is ∙ c.requires ∙ sym (ap (λ p. p.data_type) c.b.view_is) in
    let typed = types-one _ _ (sym fa ∙ ap (λ u. item_type (shown_type u)) same ∙ fb) in (
      λ h. ea ∙ ap (λ ss. slots.list (seal ss)) (c.equal.ensures.0 h).1 ∙ sym eb,
      λ e. c.equal.ensures.1 (typed, lists-one _ _ (sym ea ∙ e ∙ eb)),
    )

pub same_values-returns-then-xs-ys : goal.same_values-returns-then-xs-ys
same_values-returns-then-xs-ys t c = (λ z. let u : false ≡ true = z in cc, λ e. absurd (c.if-xs-ys.true (slots-count _ _ e)))

pub same_values-same_value-requires : goal.same_values-same_value-requires
same_values-same_value-requires t c =
    let l : c.loop-k.k < length c.args.xs.now = omega arith in
    let d = c.index-xs-k.result in
    let e = c.index-ys-k.result in
    let w = nodes-at c.args.xs.now c.loop-k.k d l in
    let v = ap (λ p. node_count p.slot) c.index-xs-k.is in
    let typed = type-at c.args.xs.now c.args.ys.now c.loop-k.k d e c.requires l in
    (omega arith, ap (λ p. p.data_type) c.index-xs-k.is ∙ typed ∙ sym (ap (λ p. p.data_type) c.index-ys-k.is))
