use Rattle.ipc_arrays.specs.ReadExamples.{structs_are, first_long_is, second_long_is, no_structs_are}
use Rattle.ipc_arrays.proofs.read_examples.struct_is_read.Goals as goal

pub returns-clause-read : goal.returns-clause-read
returns-clause-read c = structs_are

pub returns-clause-first : goal.returns-clause-first
returns-clause-first c = first_long_is

pub returns-clause-second : goal.returns-clause-second
returns-clause-second c = second_long_is

pub returns-clause-bare : goal.returns-clause-bare
returns-clause-bare c = no_structs_are
