use Rattle.ipc_arrays.specs.WriteExamples.{map_written}
use Rattle.ipc_arrays.proofs.write_examples.sliced_map_is_written.Goals as goal

pub returns : goal.returns
returns c = map_written
