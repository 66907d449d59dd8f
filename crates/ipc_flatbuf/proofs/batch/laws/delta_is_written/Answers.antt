use Rattle.ipc_flatbuf.specs.BatchExamples.{delta_written, delta_parts, delta_visited, delta_flag}
use Rattle.ipc_flatbuf.proofs.batch.laws.delta_is_written.Goals as goal

pub returns-clause-written : goal.returns-clause-written
returns-clause-written c = delta_written

pub returns-clause-message : goal.returns-clause-message
returns-clause-message c = delta_parts

pub returns-clause-table : goal.returns-clause-table
returns-clause-table c = delta_visited

pub returns-clause-delta : goal.returns-clause-delta
returns-clause-delta c = delta_flag
