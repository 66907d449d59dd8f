use Rattle.ipc_arrays.specs.WriteExamples.{listed_are}
use Rattle.ipc_arrays.proofs.write_examples.dictionary_in_sliced_list_is_written.Goals as goal

pub returns : goal.returns
returns c = listed_are
