use Rattle.ipc.specs.FileDictionaryLaws.{puts_named}
use Rattle.ipc.proofs.dictionaries.laws.dictionary_batches_name_their_ids.Goals as goal

pub returns : goal.returns
returns c = puts_named
