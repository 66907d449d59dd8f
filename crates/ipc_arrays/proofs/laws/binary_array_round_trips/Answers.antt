use Rattle.ipc_arrays.specs.Examples.{binary_column_decode, binary_column_encode}
use Rattle.ipc_arrays.proofs.laws.binary_array_round_trips.Goals as goal

pub returns-clause-read : goal.returns-clause-read
returns-clause-read c = binary_column_decode

pub returns-clause-written : goal.returns-clause-written
returns-clause-written c = binary_column_encode
