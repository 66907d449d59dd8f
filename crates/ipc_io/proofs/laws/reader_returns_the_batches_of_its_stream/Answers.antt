use Rattle.ipc_io.specs.ReaderLaws.{all_come}
use Rattle.ipc_io.proofs.laws.reader_returns_the_batches_of_its_stream.Goals as goal

pub returns : goal.returns
returns g c = all_come g.R.Read.remaining
