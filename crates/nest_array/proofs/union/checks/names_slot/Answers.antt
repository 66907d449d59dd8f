use Rattle.std.specs.Int.Signed.{le_z}
use Rattle.std.proofs.Common.{◌≡◌, ℤ, pos, true, ap, ◌∙◌, sym, subst, w32, rules}
use Rattle.std.proofs.lemmas.Int.{to_z-of_z}
use mir.Val.{SFits}
use Rattle.nest_model.specs.Fits.{child_len}
use Rattle.nest_model.specs.Meaning.{len}
use Rattle.nest_array.specs.Seen.{layout_of, layouts_of}
use Rattle.nest_array.proofs.Children.{child_len-at, child_len-past, child_len-none}
use Rattle.nest_array.proofs.UnionChecks.{names-nat, names-none}
use Rattle.nest_array.proofs.union.checks.names_slot.Goals as goal

pub returns-in-Some : goal.returns-in-Some
returns-in-Some c =
    let fits : SFits w32 c.args.offset = search rules in
    let e = to_z-of_z w32 c.args.offset fits in
    let above = subst (λ (z : ℤ). le_z (pos 0) z ≡ true) e c.if-offset-ge0.true in
    let child = c.index-fields-field.result in
    let there = child_len-at c.args.fields.now c.in-Some.field child c.if-field-fields.true ∙ ap (λ a. len (layout_of a)) (sym c.index-fields-field.is) in
    rw e (names-nat c.args.offset _ _ above (c.len.ensures ∙ sym there ∙ sym (ap (child_len (layouts_of c.args.fields.now)) c.in-Some.is)))

pub returns-in_default-2 : goal.returns-in_default-2
returns-in_default-2 c = (λ t. cc, λ h. absurd (names-none c.args.offset _ (ap (child_len (layouts_of c.args.fields.now)) c.in-Some.is ∙ child_len-past c.args.fields.now _ c.if-field-fields.false) h))

pub returns-in_default-3 : goal.returns-in_default-3
returns-in_default-3 c = (λ t. cc, λ h. absurd (names-none c.args.offset _ (ap (child_len (layouts_of c.args.fields.now)) c.in_default.is ∙ child_len-none (layouts_of c.args.fields.now)) h))
