use Rattle.ipc_io.specs.ReaderLaws.{fault_comes}
use Rattle.ipc_io.proofs.laws.reader_returns_the_error_of_its_stream.Goals as goal

pub returns : goal.returns
returns g c = fault_comes g.R.Read.remaining
