use Rattle.ipc.specs.FileLaws.{each_is}
use Rattle.ipc.proofs.laws.slice_reader_returns_the_batches_of_its_file.Goals as goal

pub returns : goal.returns
returns c = λ r batches i h lt. each_is r.state r.bytes r.blocks batches i h lt
