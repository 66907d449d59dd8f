use Rattle.ipc_arrays.specs.ReadExamples.{no_lists_are, large_lists_are}
use Rattle.ipc_arrays.proofs.read_examples.large_list_is_read.Goals as goal

pub returns-clause-none : goal.returns-clause-none
returns-clause-none c = no_lists_are

pub returns-clause-some : goal.returns-clause-some
returns-clause-some c = large_lists_are
