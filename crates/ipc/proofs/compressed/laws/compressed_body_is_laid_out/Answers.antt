use Rattle.ipc.specs.CompressedExamples.{example_body}
use Rattle.ipc.proofs.compressed.laws.compressed_body_is_laid_out.Goals as goal

pub returns : goal.returns
returns c = example_body
