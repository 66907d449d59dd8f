use Rattle.ipc_arrays.specs.ReadExamples.{dictionary_are, wide_dictionary_are, null_dictionary_are, both_dictionary_are}
use Rattle.ipc_arrays.proofs.read_examples.dictionary_is_read.Goals as goal

pub returns-clause-read : goal.returns-clause-read
returns-clause-read c = dictionary_are

pub returns-clause-wide : goal.returns-clause-wide
returns-clause-wide c = wide_dictionary_are

pub returns-clause-null : goal.returns-clause-null
returns-clause-null c = null_dictionary_are

pub returns-clause-both : goal.returns-clause-both
returns-clause-both c = both_dictionary_are
