use Rattle.ipc_schema.specs.Examples.{worked}
use Rattle.ipc_schema.proofs.laws.schema_is_read.Goals as goal

pub returns : goal.returns
returns c = worked
