use Rattle.ipc_arrays.specs.PlainBodyLaws.{reads_as_contents}
use Rattle.ipc_arrays.proofs.compression.laws.compressed_bodies_are_read.Goals as goal

pub returns : goal.returns
returns c = reads_as_contents
