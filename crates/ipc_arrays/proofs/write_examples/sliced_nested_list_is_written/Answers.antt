use Rattle.ipc_arrays.specs.WriteExamples.{rows_written}
use Rattle.ipc_arrays.proofs.write_examples.sliced_nested_list_is_written.Goals as goal

pub returns : goal.returns
returns c = rows_written
