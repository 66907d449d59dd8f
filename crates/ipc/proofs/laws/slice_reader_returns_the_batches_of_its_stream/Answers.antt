use Rattle.ipc.specs.ReaderLaws.{reader_goes_through}
use Rattle.ipc.proofs.laws.slice_reader_returns_the_batches_of_its_stream.Goals as goal

pub returns : goal.returns
returns c = reader_goes_through
