use Rattle.ipc.specs.RoundTripLaws.{values_again}
use Rattle.ipc.proofs.dictionaries.laws.values_round_trip_over_known_dictionaries.Goals as goal

pub returns : goal.returns
returns c = values_again
