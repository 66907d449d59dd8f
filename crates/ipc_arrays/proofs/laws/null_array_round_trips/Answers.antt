use Rattle.ipc_arrays.specs.Examples.{null_column_decode, null_column_encode}
use Rattle.ipc_arrays.proofs.laws.null_array_round_trips.Goals as goal

pub returns-clause-read : goal.returns-clause-read
returns-clause-read c = null_column_decode

pub returns-clause-written : goal.returns-clause-written
returns-clause-written c = null_column_encode
