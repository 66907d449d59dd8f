use Rattle.ipc.specs.StreamLaws.{one_by_one}
use Rattle.ipc.proofs.laws.batches_are_the_next_and_the_others.Goals as goal

pub returns : goal.returns
returns c = one_by_one
