use Rattle.std.proofs.Common.{◌≡◌, take}
use Rattle.nest_model.specs.Selected.{mask_indices}
use Rattle.nest_model.specs.Meaning.{slots_of}
use Rattle.nest_take.proofs.mask.indices_of.Given as goal

abbrev pub invariant-loop-i : goal.invariant-loop-i
invariant-loop-i l = l.indices.items ≡ mask_indices (take l.i (slots_of l.mask))
