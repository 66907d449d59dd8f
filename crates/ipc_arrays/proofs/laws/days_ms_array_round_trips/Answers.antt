use Rattle.ipc_arrays.specs.Examples.{days_ms_column_decode, days_ms_column_encode}
use Rattle.ipc_arrays.proofs.laws.days_ms_array_round_trips.Goals as goal

pub returns-clause-read : goal.returns-clause-read
returns-clause-read c = days_ms_column_decode

pub returns-clause-written : goal.returns-clause-written
returns-clause-written c = days_ms_column_encode
