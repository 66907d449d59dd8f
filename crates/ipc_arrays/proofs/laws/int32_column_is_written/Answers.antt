use Rattle.ipc_arrays.specs.Examples.{worked_nodes, worked_buffers, worked_written}
use Rattle.ipc_arrays.proofs.laws.int32_column_is_written.Goals as goal

pub returns-clause-nodes : goal.returns-clause-nodes
returns-clause-nodes c = worked_nodes

pub returns-clause-buffers : goal.returns-clause-buffers
returns-clause-buffers c = worked_buffers

pub returns-clause-body : goal.returns-clause-body
returns-clause-body c = worked_written
