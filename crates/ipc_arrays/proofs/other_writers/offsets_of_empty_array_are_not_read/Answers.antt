use Rattle.ipc_arrays.specs.OtherWriters.{no_offsets_read}
use Rattle.ipc_arrays.proofs.other_writers.offsets_of_empty_array_are_not_read.Goals as goal

pub returns : goal.returns
returns c = no_offsets_read
