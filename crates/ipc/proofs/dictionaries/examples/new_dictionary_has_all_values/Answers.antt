use Rattle.ipc.specs.FileDictionaryExamples.{new_known, new_put}
use Rattle.ipc.proofs.dictionaries.examples.new_dictionary_has_all_values.Goals as goal

pub returns-clause-known : goal.returns-clause-known
returns-clause-known c = new_known

pub returns-clause-put : goal.returns-clause-put
returns-clause-put c = new_put
