use Rattle.std.specs.Prelude.{None, Option, Some}
use Rattle.std.specs.Borrow.{Bor}
use Rattle.std.specs.Option.{option_copied}
use Rattle.std.proofs.Common.{◌≡◌, ◌∙◌, ℕ, List, ap, map, refl}
use Rattle.std.proofs.lemmas.Result.{err_from_is_err_and}
use Rattle.nest_model.specs.Accessors.{validity_of}
use Rattle.nest_model.specs.Slot as slots
use Rattle.nest_flat.specs.BytesGrowth.{text_tree}
use Rattle.nest_flat.specs.FlatParts.{optional}
use Rattle.nest_flat.proofs.BytesGrown.{text_made, text-kind}
use Rattle.nest_flat.proofs.Slices.{if_ok-same, map-values, spans-bits, spans-refused, values-bits}
use Rattle.nest_flat.proofs.utf8.Utf8Array.from_slice.Goals as goal

pub returns-in_err-push_values-clause-errors : goal.returns-in_err-push_values-clause-errors
returns-in_err-push_values-clause-errors g c =
    let large = g.O.Offset.IS_LARGE in
    let p = err_from_is_err_and c.from_residual-in_err-push_values.result c.from_residual-in_err-push_values.ensures.1 in
    rw (p.1, p.2) (spans-refused (text_made large (text_tree large)) slots.utf8 (text-kind large (text_tree large)) (λ ys. refl) g.O.Offset.largest
    _ _ (map Some c.args.texts.now) _ c.in_ok-builder.ensures.ok (map-values (λ (x : Option (Bor (List ℕ))). optional slots.utf8 (option_copied x)) c.args.texts.now) c.in_err-push_values.ensures.cause)

pub returns-clause-valid : goal.returns-clause-valid
returns-clause-valid g c =
    let large = g.O.Offset.IS_LARGE in
    if_ok-same c.freeze.result _ (λ a. validity_of a ≡ None)
    (ap validity_of c.in_ok-push_values.ensures.ok.parts
    ∙ spans-bits (text_made large (text_tree large)) slots.utf8 (text-kind large (text_tree large)) (λ ys. refl) g.O.Offset.largest _ (map Some c.args.texts.now) c.in_ok-builder.ensures.ok ∙ values-bits c.args.texts.now)
    c.freeze.ensures.ok
