use Rattle.nest_memory.proofs.Copied.{map-copied}
use Rattle.nest_memory.proofs.datatypes.cloning.copy_entries.Goals as goal

pub returns : goal.returns
returns c = map-copied _ _ (λ x y h i. (h.0 i, h.1 i)) _ _ c.in_ok-copied.ensures.cases
