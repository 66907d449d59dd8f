use Rattle.ipc.specs.FileDictionaryExamples.{same_known, same_put}
use Rattle.ipc.proofs.dictionaries.examples.unchanged_dictionary_has_no_batch.Goals as goal

pub returns-clause-known : goal.returns-clause-known
returns-clause-known c = same_known

pub returns-clause-put : goal.returns-clause-put
returns-clause-put c = same_put
