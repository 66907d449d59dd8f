use Rattle.ipc.specs.KnownDictionaryLaws.{needed_again}
use Rattle.ipc.proofs.dictionaries.laws.nothing_is_pending_after_emission.Goals as goal

pub returns : goal.returns
returns c = needed_again
