use Rattle.ipc_arrays.specs.WriteExamples.{words_alike}
use Rattle.ipc_arrays.proofs.write_examples.dictionary_values_may_be_extended.Goals as goal

pub returns : goal.returns
returns c = words_alike
