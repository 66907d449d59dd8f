use Rattle.ipc_arrays.specs.WriteExamples.{row_written}
use Rattle.ipc_arrays.proofs.write_examples.sliced_list_is_written.Goals as goal

pub returns : goal.returns
returns c = row_written
