use Rattle.ipc.specs.KnownMoreLaws.{dictionary_or}
use Rattle.ipc.proofs.file_laws.file_dictionaries_are_read_as_in_streams.Goals as goal

pub returns : goal.returns
returns c = dictionary_or
