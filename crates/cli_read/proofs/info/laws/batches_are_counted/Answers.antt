use Rattle.std.proofs.Common.{refl}
use Rattle.cli_read.proofs.info.laws.batches_are_counted.Goals as goal

pub returns-clause-batches : goal.returns-clause-batches
returns-clause-batches c = refl

pub returns-clause-rows : goal.returns-clause-rows
returns-clause-rows c = refl

pub returns-clause-dictionaries : goal.returns-clause-dictionaries
returns-clause-dictionaries c = refl

pub returns-clause-deltas : goal.returns-clause-deltas
returns-clause-deltas c = refl
