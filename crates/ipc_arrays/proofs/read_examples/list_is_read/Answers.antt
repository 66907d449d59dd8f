use Rattle.ipc_arrays.specs.ReadExamples.{lists_are, short_lists_are, bare_lists_are}
use Rattle.ipc_arrays.proofs.read_examples.list_is_read.Goals as goal

pub returns-clause-read : goal.returns-clause-read
returns-clause-read c = lists_are

pub returns-clause-short : goal.returns-clause-short
returns-clause-short c = short_lists_are

pub returns-clause-bare : goal.returns-clause-bare
returns-clause-bare c = bare_lists_are
