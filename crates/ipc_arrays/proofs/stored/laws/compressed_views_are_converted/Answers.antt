use Rattle.ipc_arrays.specs.StoredExamples.{compressed_are}
use Rattle.ipc_arrays.proofs.stored.laws.compressed_views_are_converted.Goals as goal

pub returns : goal.returns
returns c = compressed_are
