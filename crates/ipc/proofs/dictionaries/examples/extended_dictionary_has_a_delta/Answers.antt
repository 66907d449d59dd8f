use Rattle.ipc.specs.FileDictionaryExamples.{grown_known, grown_put, last_slots, two_put}
use Rattle.ipc.proofs.dictionaries.examples.extended_dictionary_has_a_delta.Goals as goal

pub returns-clause-known : goal.returns-clause-known
returns-clause-known c = grown_known

pub returns-clause-put : goal.returns-clause-put
returns-clause-put c = grown_put

pub returns-clause-word : goal.returns-clause-word
returns-clause-word c = last_slots

pub returns-clause-order : goal.returns-clause-order
returns-clause-order c = two_put
