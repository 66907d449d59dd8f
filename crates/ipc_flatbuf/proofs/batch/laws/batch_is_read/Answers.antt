use Rattle.ipc_flatbuf.specs.BatchExamples.{worked_parts, worked_batch}
use Rattle.ipc_flatbuf.proofs.batch.laws.batch_is_read.Goals as goal

pub returns-clause-message : goal.returns-clause-message
returns-clause-message c = worked_parts

pub returns-clause-batch : goal.returns-clause-batch
returns-clause-batch c = worked_batch
