use Rattle.std.specs.Prelude.{option_map}
use Rattle.std.proofs.Common.{ap, sym, ◌∙◌}
use Rattle.nest_model.specs.Accessors.{as_integer}
use Rattle.nest_any.proofs.FlatKinds.{index-of}
use Rattle.nest_any.proofs.dictionary.place_of.Goals as goal

pub returns-in-Some : goal.returns-in-Some
returns-in-Some g c =
    let m = ap (option_map (λ key. as_integer (g.K.NativeType.numbers key))) c.in-Some.is in
    λ k.
    let i = index-of (as_integer (g.K.NativeType.numbers c.in-Some.key)) _ k c.to_index.ensures in
    let h = c.key_of.ensures.place k in
    (λ e. h.0 (m ∙ i.0 e), λ s. i.1 (sym m ∙ h.1 s))
