use Rattle.ipc_arrays.specs.Examples.{boolean_column_decode, boolean_column_encode}
use Rattle.ipc_arrays.proofs.laws.boolean_array_round_trips.Goals as goal

pub returns-clause-read : goal.returns-clause-read
returns-clause-read c = boolean_column_decode

pub returns-clause-written : goal.returns-clause-written
returns-clause-written c = boolean_column_encode
