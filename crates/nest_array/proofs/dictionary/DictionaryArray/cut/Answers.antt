use Rattle.std.proofs.Common.{ap, sym, subst, arith}
use Rattle.nest_memory.specs.TypeOf.{type_of}
use Rattle.nest_model.specs.Array.{TopFits}
use Rattle.nest_model.specs.FitsLaws.{top-fits-cut}
use Rattle.nest_model.specs.Layout as layouts
use Rattle.nest_model.specs.Meaning.{len}
use Rattle.nest_array.specs.Seen.{layout_of}
use Rattle.nest_array.specs.SeenKeys.{keys_layout}
use Rattle.nest_array.proofs.dictionary.DictionaryArray.cut.Goals as goal

pub invariant_of-self : goal.invariant_of-self
invariant_of-self c =
    let t = type_of c.self.inside.shared.value.data_type in
    let vs = layout_of c.self.inside.shared.value.values in
    let e = ap len c.self.view_is in
    subst (λ ks. TopFits (layouts.dictionary t ks vs)) (sym c.slice.ensures)
    (top-fits-cut (layouts.dictionary t (keys_layout c.self.inside.keys) vs) c.args.o c.args.n c.self.invariant (omega (arith, e, c.requires)))
