use Rattle.ipc_arrays.specs.ReadExamples.{sized_list_are, long_sized_list_are, no_sized_list_are}
use Rattle.ipc_arrays.proofs.read_examples.fixed_size_list_is_read.Goals as goal

pub returns-clause-read : goal.returns-clause-read
returns-clause-read c = sized_list_are

pub returns-clause-long : goal.returns-clause-long
returns-clause-long c = long_sized_list_are

pub returns-clause-zero : goal.returns-clause-zero
returns-clause-zero c = no_sized_list_are
