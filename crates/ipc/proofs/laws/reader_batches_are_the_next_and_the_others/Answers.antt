use Rattle.ipc.specs.ReaderLaws.{reader_step}
use Rattle.ipc.proofs.laws.reader_batches_are_the_next_and_the_others.Goals as goal

pub returns : goal.returns
returns c = reader_step
