use Rattle.std.proofs.Common.{◌≡◌, ap, sym, ◌∙◌, subst}
use Rattle.nest_memory.specs.TypeOf.{type_of}
use Rattle.nest_model.specs.Array.{TopFits}
use Rattle.nest_model.specs.Fits.{EachValidNames, ValidityFits}
use Rattle.nest_model.specs.Layout as layouts
use Rattle.nest_model.specs.Meaning.{len}
use Rattle.nest_model.specs.ValidityLaws.{taken-fits}
use Rattle.nest_array.specs.Seen.{layout_of}
use Rattle.nest_array.specs.SeenKeys.{keys_layout}
use Rattle.nest_array.proofs.dictionary.DictionaryArray.set_validity.Goals as goal

pub invariant_of-self : goal.invariant_of-self
invariant_of-self c =
    let t = type_of c.self.inside.shared.value.data_type in
    let ks = keys_layout c.self.inside.keys in
    let vs = layout_of c.self.inside.shared.value.values in
    let m : c.len.result ≡ len ks = c.len.ensures ∙ sym (ap len c.self.view_is) in
    let n : c.len-2.result ≡ len vs = c.len-2.ensures ∙ ap (λ s. len (layout_of s.values)) c.deref.ensures in
    let bits = subst (ValidityFits c.args.validity) m (c.fits.ensures.0 c.if-not-fits.false) in
    let names = subst (EachValidNames c.args.validity ks) n (c.each_valid_names.ensures.0 c.if-not-each_valid_names.false) in
    subst (λ k. TopFits (layouts.dictionary t k vs)) (sym c.set_validity.ensures)
    (taken-fits (layouts.dictionary t ks vs) c.args.validity c.self.invariant (bits, (names, tt)))
