use Rattle.std.proofs.Common.{◌≡◌, true, false, inl, sym, ◌∙◌, subst}
use Rattle.nest_model.specs.Fits.{KeysInRange}
use Rattle.nest_model.specs.Layout as layouts
use Rattle.nest_array.specs.Seen.{layout_of}
use Rattle.nest_array.specs.SeenKeys.{keys_layout}
use Rattle.nest_array.proofs.Keyed.{of-made, keys-fit, keys-past}
use Rattle.nest_array.proofs.dictionary.DictionaryArray.try_from_keys.Goals as goal

pub returns-then-not-are_in_range : goal.returns-then-not-are_in_range
returns-then-not-are_in_range c =
    inl (keys-past (keys_layout c.args.keys) (layout_of c.args.values) c.known.ensures (λ h.
    let u : false ≡ true = sym c.if-not-are_in_range.true ∙ c.are_in_range.ensures.1 (subst (KeysInRange (keys_layout c.args.keys)) (sym c.len.ensures) h) in cc))

pub returns-in-Ok : goal.returns-in-Ok
returns-in-Ok c =
    let ks = keys_layout c.args.keys in
    let vs = layout_of c.args.values in
    let range = subst (KeysInRange ks) c.len.ensures (c.are_in_range.ensures.0 c.if-not-are_in_range.false) in
    of-made c.of.result _ _ (λ i. layouts.dictionary (c.in-Ok.ensures.ok i) ks vs) (keys-fit ks vs c.known.ensures range) c.of.ensures.ok c.of.ensures.err
