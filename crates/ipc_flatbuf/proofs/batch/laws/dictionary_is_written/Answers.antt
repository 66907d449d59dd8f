use Rattle.ipc_flatbuf.specs.BatchExamples.{values_written, values_parts, values_visited, values_id, values_place, values_whole, values_batch}
use Rattle.ipc_flatbuf.proofs.batch.laws.dictionary_is_written.Goals as goal

pub returns-clause-written : goal.returns-clause-written
returns-clause-written c = values_written

pub returns-clause-message : goal.returns-clause-message
returns-clause-message c = values_parts

pub returns-clause-table : goal.returns-clause-table
returns-clause-table c = values_visited

pub returns-clause-id : goal.returns-clause-id
returns-clause-id c = values_id

pub returns-clause-position : goal.returns-clause-position
returns-clause-position c = values_place

pub returns-clause-no_delta : goal.returns-clause-no_delta
returns-clause-no_delta c = values_whole

pub returns-clause-batch : goal.returns-clause-batch
returns-clause-batch c = values_batch
