use Rattle.std.proofs.Common.{ap, ◌∙◌}
use Rattle.nest_memory.specs.Physical.{physical_type}
use Rattle.nest_model.specs.Accessors.{key_type_of}
use Rattle.nest_model.specs.Layout.{layout_type}
use Rattle.nest_concat.proofs.Keyed.{window-keys}
use Rattle.nest_concat.proofs.keys.keys_of_window.Goals as goal

pub returns-clause-width : goal.returns-clause-width
returns-clause-width g c =
    let p = ap (λ z. physical_type (layout_type z)) (c.in-Some.ensures.1 ∙ c.array.ensures) ∙ c.requires.kind in
    ap key_type_of c.keys.ensures ∙ (window-keys g.K.DictionaryKey.KEY_TYPE c.in-Some.array.now c.known.ensures.fits p).0
