use Rattle.ipc_arrays.specs.StoredExamples.{no_count, few_views, buffer_left}
use Rattle.ipc_arrays.proofs.stored.laws.missing_parts_are_rejected.Goals as goal

pub returns-clause-count : goal.returns-clause-count
returns-clause-count c = no_count

pub returns-clause-views : goal.returns-clause-views
returns-clause-views c = few_views

pub returns-clause-array : goal.returns-clause-array
returns-clause-array c = buffer_left
