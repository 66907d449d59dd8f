use Rattle.nest_array.proofs.FixedSizeBinaries.{bytes-within, fixed-cut, fixed-cut-fits}
use Rattle.nest_array.proofs.fixed_size_binary.FixedSizeBinaryArray.cut.Goals as goal

pub slice-requires : goal.slice-requires
slice-requires c = bytes-within _ _ _ _ _ _ _ c.self.invariant.1 c.self.view_is c.requires

pub invariant_of-self : goal.invariant_of-self
invariant_of-self c =
    (fixed-cut-fits _ _ _ _ _ _ _ _ _ c.self.invariant.1 c.slice.ensures c.slice-2.ensures c.self.view_is c.self.invariant.0 c.requires, c.self.invariant.1)

pub returns : goal.returns
returns c = fixed-cut _ _ _ _ _ _ _ _ _ c.self.invariant.1 c.slice.ensures c.slice-2.ensures c.self.view_is
