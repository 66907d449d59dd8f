use Rattle.ipc_arrays.specs.Examples.{int256_column_decode, int256_column_encode}
use Rattle.ipc_arrays.proofs.laws.int256_array_round_trips.Goals as goal

pub returns-clause-read : goal.returns-clause-read
returns-clause-read c = int256_column_decode

pub returns-clause-written : goal.returns-clause-written
returns-clause-written c = int256_column_encode
