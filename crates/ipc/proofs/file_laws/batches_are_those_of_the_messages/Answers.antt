use Rattle.ipc.specs.MessageLaws.{batches_of_messages}
use Rattle.ipc.proofs.file_laws.batches_are_those_of_the_messages.Goals as goal

pub returns : goal.returns
returns c = batches_of_messages
