use Rattle.ipc_arrays.specs.Utf8Laws.{other_bytes_rejected}
use Rattle.ipc_arrays.proofs.other_writers.other_bytes_are_rejected.Goals as goal

pub returns : goal.returns
returns c = other_bytes_rejected
