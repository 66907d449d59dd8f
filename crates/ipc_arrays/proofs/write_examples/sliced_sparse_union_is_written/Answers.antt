use Rattle.ipc_arrays.specs.WriteExamples.{sparse_written}
use Rattle.ipc_arrays.proofs.write_examples.sliced_sparse_union_is_written.Goals as goal

pub returns : goal.returns
returns c = sparse_written
