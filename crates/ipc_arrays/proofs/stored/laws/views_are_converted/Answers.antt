use Rattle.ipc_arrays.specs.StoredExamples.{views_are}
use Rattle.ipc_arrays.proofs.stored.laws.views_are_converted.Goals as goal

pub returns : goal.returns
returns c = views_are
