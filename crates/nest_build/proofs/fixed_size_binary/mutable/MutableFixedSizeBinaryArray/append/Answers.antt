use Rattle.std.proofs.Common.{ap, sym, subst, ◌∙◌}
use Rattle.nest_memory.specs.TypeOf.{type_of}
use Rattle.nest_model.specs.Array.{TopFits}
use Rattle.nest_model.specs.Meaning.{slots_of}
use Rattle.nest_array.specs.FixedBytesLaws.{appended-parts, appended-fits, appended-slots}
use Rattle.nest_build.proofs.fixed_size_binary.mutable.MutableFixedSizeBinaryArray.append.Goals as goal

pub invariant_of-self-in_default : goal.invariant_of-self-in_default
invariant_of-self-in_default c =
    let t = type_of c.self.inside.data_type in
    let u = type_of c.other.inside.data_type in
    let parts = appended-parts t u c.self.inside.values.items c.other.inside.values.items _ _ c.self.inside.validity c.other.inside.validity _ _ _ _ _ c.self.view_is c.other.view_is
    c.in_ok-extend_from_slice.ensures.items c.as_slice.ensures.value c.in_default.ensures.ok c.len-n.ensures c.len-m.ensures in
    (subst TopFits (sym parts) (appended-fits t u _ _ _ _ _ _ c.self.view_is c.other.view_is c.self.invariant.0 c.other.invariant.0 c.requires), c.self.invariant.1)

pub returns-clause-slots : goal.returns-clause-slots
returns-clause-slots c =
    let t = type_of c.self.inside.data_type in
    let u = type_of c.other.inside.data_type in
    let parts = appended-parts t u c.self.inside.values.items c.other.inside.values.items _ _ c.self.inside.validity c.other.inside.validity _ _ _ _ _ c.self.view_is c.other.view_is
    c.in_ok-extend_from_slice.ensures.items c.as_slice.ensures.value c.in_default.ensures.ok c.len-n.ensures c.len-m.ensures in
    ap slots_of parts ∙ appended-slots t u _ _ _ _ _ _ c.self.view_is c.other.view_is c.self.invariant.0 c.other.invariant.0 c.requires
