use Rattle.ipc_arrays.specs.Examples.{months_days_ns_column_decode, months_days_ns_column_encode}
use Rattle.ipc_arrays.proofs.laws.months_days_ns_array_round_trips.Goals as goal

pub returns-clause-read : goal.returns-clause-read
returns-clause-read c = months_days_ns_column_decode

pub returns-clause-written : goal.returns-clause-written
returns-clause-written c = months_days_ns_column_encode
