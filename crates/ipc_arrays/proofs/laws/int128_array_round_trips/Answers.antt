use Rattle.ipc_arrays.specs.Examples.{int128_column_decode, int128_column_encode}
use Rattle.ipc_arrays.proofs.laws.int128_array_round_trips.Goals as goal

pub returns-clause-read : goal.returns-clause-read
returns-clause-read c = int128_column_decode

pub returns-clause-written : goal.returns-clause-written
returns-clause-written c = int128_column_encode
