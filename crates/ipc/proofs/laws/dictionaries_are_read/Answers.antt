use Rattle.ipc.specs.DictionaryExamples.{are_dictionaries}
use Rattle.ipc.proofs.laws.dictionaries_are_read.Goals as goal

pub returns : goal.returns
returns c = are_dictionaries
