use Rattle.ipc_arrays.specs.Examples.{worked_read}
use Rattle.ipc_arrays.proofs.laws.int32_column_is_read.Goals as goal

pub returns : goal.returns
returns c = worked_read
