use Rattle.ipc_arrays.specs.StoredExamples.{wrong_prefix, negative_length, past_buffer, past_buffers}
use Rattle.ipc_arrays.proofs.stored.laws.invalid_views_are_rejected.Goals as goal

pub returns-clause-prefix : goal.returns-clause-prefix
returns-clause-prefix c = wrong_prefix

pub returns-clause-length : goal.returns-clause-length
returns-clause-length c = negative_length

pub returns-clause-offset : goal.returns-clause-offset
returns-clause-offset c = past_buffer

pub returns-clause-index : goal.returns-clause-index
returns-clause-index c = past_buffers
