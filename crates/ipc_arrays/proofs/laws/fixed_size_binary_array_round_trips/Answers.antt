use Rattle.ipc_arrays.specs.Examples.{fixed_size_binary_column_decode, fixed_size_binary_column_encode}
use Rattle.ipc_arrays.proofs.laws.fixed_size_binary_array_round_trips.Goals as goal

pub returns-clause-read : goal.returns-clause-read
returns-clause-read c = fixed_size_binary_column_decode

pub returns-clause-written : goal.returns-clause-written
returns-clause-written c = fixed_size_binary_column_encode
