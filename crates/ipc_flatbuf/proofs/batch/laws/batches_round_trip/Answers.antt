use Rattle.ipc_flatbuf.specs.BatchLaws.{batch_round_trips_with_bodies}
use Rattle.ipc_flatbuf.proofs.batch.laws.batches_round_trip.Goals as goal

pub returns : goal.returns
returns c = batch_round_trips_with_bodies
