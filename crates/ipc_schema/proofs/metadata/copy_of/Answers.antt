use Rattle.ipc_schema.proofs.Maps.{copied}
use Rattle.ipc_schema.proofs.metadata.copy_of.Goals as goal

pub returns : goal.returns
returns c = copied _ (λ x y h i. (h.0 i, h.1 i)) _ _ c.in_ok-copied.ensures.cases
