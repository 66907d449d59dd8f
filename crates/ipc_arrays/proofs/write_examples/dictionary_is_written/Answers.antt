use Rattle.ipc_arrays.specs.WriteExamples.{keyed_are}
use Rattle.ipc_arrays.proofs.write_examples.dictionary_is_written.Goals as goal

pub returns : goal.returns
returns c = keyed_are
