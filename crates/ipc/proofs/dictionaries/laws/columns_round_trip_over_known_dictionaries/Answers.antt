use Rattle.ipc.specs.RoundTripLaws.{columns_again}
use Rattle.ipc.proofs.dictionaries.laws.columns_round_trip_over_known_dictionaries.Goals as goal

pub returns : goal.returns
returns c = columns_again
