use Rattle.ipc_arrays.specs.WriteExamples.{dense_written}
use Rattle.ipc_arrays.proofs.write_examples.sliced_dense_union_is_written.Goals as goal

pub returns : goal.returns
returns c = dense_written
