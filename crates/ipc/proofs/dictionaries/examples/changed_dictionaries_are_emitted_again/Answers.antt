use Rattle.ipc.specs.PendingExamples.{same_records, inner_again, outer_again, others_again}
use Rattle.ipc.proofs.dictionaries.examples.changed_dictionaries_are_emitted_again.Goals as goal

pub returns-clause-same : goal.returns-clause-same
returns-clause-same c = same_records

pub returns-clause-inner : goal.returns-clause-inner
returns-clause-inner c = inner_again

pub returns-clause-outer : goal.returns-clause-outer
returns-clause-outer c = outer_again

pub returns-clause-others : goal.returns-clause-others
returns-clause-others c = others_again
