use Rattle.ipc.specs.RoundTripLaws.{columns_known}
use Rattle.ipc.proofs.dictionaries.laws.pending_dictionaries_become_known.Goals as goal

pub returns : goal.returns
returns c = columns_known
