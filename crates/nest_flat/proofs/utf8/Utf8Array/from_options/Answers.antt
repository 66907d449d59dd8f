use Rattle.std.proofs.Common.{◌≡◌, ◌∙◌, ap, refl}
use Rattle.std.proofs.lemmas.Result.{err_from_is_err_and}
use Rattle.nest_model.specs.Accessors.{validity_of}
use Rattle.nest_model.specs.Slot as slots
use Rattle.nest_flat.specs.BytesGrowth.{text_tree}
use Rattle.nest_flat.specs.Slices.{option_bits}
use Rattle.nest_flat.proofs.BytesGrown.{text_made, text-kind}
use Rattle.nest_flat.proofs.Slices.{if_ok-same, spans-bits, spans-refused}
use Rattle.nest_flat.proofs.utf8.Utf8Array.from_options.Goals as goal

pub returns-in_err-push_options-clause-errors : goal.returns-in_err-push_options-clause-errors
returns-in_err-push_options-clause-errors g c =
    let large = g.O.Offset.IS_LARGE in
    let p = err_from_is_err_and c.from_residual-in_err-push_options.result c.from_residual-in_err-push_options.ensures.1 in
    rw (p.1, p.2) (spans-refused (text_made large (text_tree large)) slots.utf8 (text-kind large (text_tree large)) (λ ys. refl) g.O.Offset.largest
    _ _ c.args.items.now _ c.in_ok-builder.ensures.ok refl c.in_err-push_options.ensures.cause)

pub returns-clause-valid : goal.returns-clause-valid
returns-clause-valid g c =
    let large = g.O.Offset.IS_LARGE in
    if_ok-same c.freeze.result _ (λ a. validity_of a ≡ option_bits c.args.items.now)
    (ap validity_of c.in_ok-push_options.ensures.ok.parts
    ∙ spans-bits (text_made large (text_tree large)) slots.utf8 (text-kind large (text_tree large)) (λ ys. refl) g.O.Offset.largest _ c.args.items.now c.in_ok-builder.ensures.ok)
    c.freeze.ensures.ok
