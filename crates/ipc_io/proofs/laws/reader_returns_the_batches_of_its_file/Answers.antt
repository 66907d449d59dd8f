use Rattle.ipc_io.specs.FileReaderLaws.{file_comes}
use Rattle.ipc_io.proofs.laws.reader_returns_the_batches_of_its_file.Goals as goal

pub returns : goal.returns
returns g c = file_comes g.R.Seek.stream_position g.R.Seek.stream_bytes
