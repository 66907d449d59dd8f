use Rattle.std.proofs.Common.{refl, rules}
use Rattle.ipc_io.proofs.Ranges.{stays_same, stays_read, stays_err, stays_on}
use Rattle.ipc_io.proofs.seeking.read_retrying.Goals as goal

pub tries-init : goal.tries-init
tries-init g c = (refl, stays_same _)

pub returns-in-Ok-clause-there : goal.returns-in-Ok-clause-there
returns-in-Ok-clause-there g c = stays_read _ _ _ _ _ c.tries.invariant.1 c.in-Ok.ensures.there

pub returns-then-ne-clause-there : goal.returns-then-ne-clause-there
returns-then-ne-clause-there g c = stays_read _ _ _ _ _ c.tries.invariant.1 c.in-Err.ensures.there

pub tries-preserved : goal.tries-preserved
tries-preserved g c = (search rules, stays_on _ _ _ _ _ c.tries.invariant.1 c.in-Err.ensures.there)

pub returns-clause-there : goal.returns-clause-there
returns-clause-there g c = stays_err _ _ _ _ c.tries.invariant.1
