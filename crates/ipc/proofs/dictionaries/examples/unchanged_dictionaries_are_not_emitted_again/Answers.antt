use Rattle.ipc.specs.PendingExamples.{none_again}
use Rattle.ipc.proofs.dictionaries.examples.unchanged_dictionaries_are_not_emitted_again.Goals as goal

pub returns : goal.returns
returns c = none_again
