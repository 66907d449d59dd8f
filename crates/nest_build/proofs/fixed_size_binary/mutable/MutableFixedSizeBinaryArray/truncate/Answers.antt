use Rattle.std.proofs.Common.{ap, sym, subst, arith, ◌∙◌}
use Rattle.nest_memory.specs.TypeOf.{type_of}
use Rattle.nest_model.specs.Array.{TopFits}
use Rattle.nest_model.specs.SliceLaws.{slots-cut}
use Rattle.nest_model.specs.Meaning.{slots_of}
use Rattle.nest_array.specs.FixedBytesLaws.{cut-parts, cut-fits}
use Rattle.nest_build.proofs.fixed_size_binary.mutable.MutableFixedSizeBinaryArray.truncate.Goals as goal

pub invariant_of-self : goal.invariant_of-self
invariant_of-self c =
    let t = type_of c.self.inside.data_type in
    let parts = cut-parts t c.self.inside.values.items _ c.self.inside.validity _ _ c.args.n _ c.self.view_is c.self.invariant.1 c.truncate.ensures.items c.truncate-2.ensures in
    (subst TopFits (sym parts) (cut-fits t _ _ _ c.args.n c.self.view_is c.self.invariant.0 c.requires), c.self.invariant.1)

pub returns-clause-slots : goal.returns-clause-slots
returns-clause-slots c =
    let t = type_of c.self.inside.data_type in
    let parts = cut-parts t c.self.inside.values.items _ c.self.inside.validity _ _ c.args.n _ c.self.view_is c.self.invariant.1 c.truncate.ensures.items c.truncate-2.ensures in
    ap slots_of parts ∙ slots-cut c.args.self.now 0 c.args.n (omega (arith, c.requires))
