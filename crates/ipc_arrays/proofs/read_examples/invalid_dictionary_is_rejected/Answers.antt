use Rattle.ipc_arrays.specs.ReadExamples.{past_dictionary_are, negative_dictionary_are, missing_dictionary_are, bare_dictionary_are, unlike_dictionary_are, short_dictionary_are}
use Rattle.ipc_arrays.proofs.read_examples.invalid_dictionary_is_rejected.Goals as goal

pub returns-clause-past : goal.returns-clause-past
returns-clause-past c = past_dictionary_are

pub returns-clause-negative : goal.returns-clause-negative
returns-clause-negative c = negative_dictionary_are

pub returns-clause-missing : goal.returns-clause-missing
returns-clause-missing c = missing_dictionary_are

pub returns-clause-bare : goal.returns-clause-bare
returns-clause-bare c = bare_dictionary_are

pub returns-clause-unlike : goal.returns-clause-unlike
returns-clause-unlike c = unlike_dictionary_are

pub returns-clause-short : goal.returns-clause-short
returns-clause-short c = short_dictionary_are
