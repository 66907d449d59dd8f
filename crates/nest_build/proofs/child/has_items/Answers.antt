use Rattle.std.proofs.Common.{◌≡◌, true, false, sym, ap, ◌∙◌}
use Rattle.std.specs.Prelude.{option_map, Some, None}
use Rattle.std.proofs.lemmas.Option.{same_Some, none-some}
use Rattle.nest_memory.specs.TypeOf.{type_of}
use Rattle.nest_memory.specs.TypeTree.{item_type}
use Rattle.nest_memory.specs.TypeEq.{same_type-decides}
use Rattle.nest_build.proofs.child.has_items.Goals as goal

pub returns-in-None : goal.returns-in-None
returns-in-None c =
    let e : item_type (type_of c.args.lists.now) ≡ None = sym c.item_type.ensures ∙ ap (option_map (λ t. type_of t.now)) c.in-None.is in
    (λ k. let u : false ≡ true = k in cc, λ k. absurd (none-some _ (sym e ∙ k)))

pub returns-in-Some : goal.returns-in-Some
returns-in-Some c =
    let e : item_type (type_of c.args.lists.now) ≡ Some (type_of c.in-Some.item.now) = sym c.item_type.ensures ∙ ap (option_map (λ t. type_of t.now)) c.in-Some.is in
    let d = same_type-decides (type_of c.in-Some.item.now) (type_of c.args.items.now) in
    (λ k. e ∙ ap Some (d.0 (sym c.eq.ensures ∙ k)), λ k. c.eq.ensures ∙ d.1 (same_Some _ _ (sym e ∙ k)))
