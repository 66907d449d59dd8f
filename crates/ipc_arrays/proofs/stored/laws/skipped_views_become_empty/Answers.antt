use Rattle.ipc_arrays.specs.StoredExamples.{skipped_are}
use Rattle.ipc_arrays.proofs.stored.laws.skipped_views_become_empty.Goals as goal

pub returns : goal.returns
returns c = skipped_are
