use Rattle.ipc_arrays.specs.WriteExamples.{none_written}
use Rattle.ipc_arrays.proofs.write_examples.empty_sparse_union_is_written.Goals as goal

pub returns : goal.returns
returns c = none_written
