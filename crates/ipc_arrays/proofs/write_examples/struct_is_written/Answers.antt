use Rattle.ipc_arrays.specs.WriteExamples.{record_written}
use Rattle.ipc_arrays.proofs.write_examples.struct_is_written.Goals as goal

pub returns : goal.returns
returns c = record_written
