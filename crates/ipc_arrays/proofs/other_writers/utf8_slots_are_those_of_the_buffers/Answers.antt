use Rattle.ipc_arrays.specs.Utf8Laws.{slots_kept, valid_utf8_read}
use Rattle.ipc_arrays.proofs.other_writers.utf8_slots_are_those_of_the_buffers.Goals as goal

pub returns-clause-slots : goal.returns-clause-slots
returns-clause-slots c = slots_kept

pub returns-clause-read : goal.returns-clause-read
returns-clause-read c = valid_utf8_read
