use Rattle.ipc_arrays.specs.WriteExamples.{sized_written}
use Rattle.ipc_arrays.proofs.write_examples.fixed_size_list_is_written.Goals as goal

pub returns : goal.returns
returns c = sized_written
