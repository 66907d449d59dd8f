use Rattle.ipc.specs.StreamLaws.{nothing_left}
use Rattle.ipc.proofs.laws.no_bytes_have_no_batch.Goals as goal

pub returns : goal.returns
returns c = nothing_left
