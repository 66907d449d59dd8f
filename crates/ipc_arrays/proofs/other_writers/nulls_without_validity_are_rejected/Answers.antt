use Rattle.ipc_arrays.specs.OtherWriters.{no_validity_are, no_bits_short}
use Rattle.ipc_arrays.proofs.other_writers.nulls_without_validity_are_rejected.Goals as goal

pub returns-clause-example : goal.returns-clause-example
returns-clause-example c = no_validity_are

pub returns-clause-each : goal.returns-clause-each
returns-clause-each c = no_bits_short
