use Rattle.ipc_arrays.specs.WriteExamples.{cut_are}
use Rattle.ipc_arrays.proofs.write_examples.sliced_dictionary_is_written.Goals as goal

pub returns : goal.returns
returns c = cut_are
