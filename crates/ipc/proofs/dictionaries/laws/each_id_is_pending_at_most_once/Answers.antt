use Rattle.ipc.specs.DistinctIdLaws.{needed_apart}
use Rattle.ipc.proofs.dictionaries.laws.each_id_is_pending_at_most_once.Goals as goal

pub returns : goal.returns
returns c = λ emitted columns. needed_apart emitted columns
