use Rattle.ipc_arrays.specs.Examples.{large_utf8_column_decode, large_utf8_column_encode}
use Rattle.ipc_arrays.proofs.laws.large_utf8_array_round_trips.Goals as goal

pub returns-clause-read : goal.returns-clause-read
returns-clause-read c = large_utf8_column_decode

pub returns-clause-written : goal.returns-clause-written
returns-clause-written c = large_utf8_column_encode
