use Rattle.ipc_flatbuf.specs.DictionaryLaws.{dictionary_round_trips_with_bodies}
use Rattle.ipc_flatbuf.proofs.batch.laws.dictionaries_round_trip.Goals as goal

pub returns : goal.returns
returns c = dictionary_round_trips_with_bodies
