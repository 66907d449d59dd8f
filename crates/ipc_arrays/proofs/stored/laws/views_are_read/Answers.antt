use Rattle.ipc_arrays.specs.StoredLaws.{views_are_read}
use Rattle.ipc_arrays.proofs.stored.laws.views_are_read.Goals as goal

pub returns : goal.returns
returns c = views_are_read
