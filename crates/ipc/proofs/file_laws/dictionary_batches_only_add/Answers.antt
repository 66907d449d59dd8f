use Rattle.ipc.specs.KnownMoreLaws.{later_known}
use Rattle.ipc.proofs.file_laws.dictionary_batches_only_add.Goals as goal

pub returns : goal.returns
returns c = later_known
