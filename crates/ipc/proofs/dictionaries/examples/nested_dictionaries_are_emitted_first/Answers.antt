use Rattle.ipc.specs.PendingExamples.{first_needed, all_sent}
use Rattle.ipc.proofs.dictionaries.examples.nested_dictionaries_are_emitted_first.Goals as goal

pub returns-clause-pending : goal.returns-clause-pending
returns-clause-pending c = first_needed

pub returns-clause-emitted : goal.returns-clause-emitted
returns-clause-emitted c = all_sent
