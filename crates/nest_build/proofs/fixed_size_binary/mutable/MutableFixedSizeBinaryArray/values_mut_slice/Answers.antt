use Rattle.std.proofs.Common.{sym, ◌∙◌}
use Rattle.std.specs.List.{length_refill}
use Rattle.nest_memory.specs.TypeOf.{type_of}
use Rattle.nest_array.specs.FixedBytesLaws.{other-bytes_fit}
use Rattle.nest_build.proofs.fixed_size_binary.mutable.MutableFixedSizeBinaryArray.values_mut_slice.Goals as goal

pub invariant_of-self-lent : goal.invariant_of-self-lent
invariant_of-self-lent c = λ w.
    let v = c.self.inside.values in
    (other-bytes_fit (type_of c.self.inside.data_type) v.items _ c.self.inside.validity (sym (length_refill v.len v.items _ v.ok.0) ∙ v.ok.0) c.self.invariant.0, c.self.invariant.1)
