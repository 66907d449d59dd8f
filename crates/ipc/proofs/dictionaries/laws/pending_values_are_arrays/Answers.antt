use Rattle.ipc.specs.FileDictionaryLaws.{needed_arrays}
use Rattle.ipc.proofs.dictionaries.laws.pending_values_are_arrays.Goals as goal

pub returns : goal.returns
returns c = needed_arrays
