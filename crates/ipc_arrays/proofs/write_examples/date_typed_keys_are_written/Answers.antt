use Rattle.ipc_arrays.specs.WriteExamples.{dated_are}
use Rattle.ipc_arrays.proofs.write_examples.date_typed_keys_are_written.Goals as goal

pub returns : goal.returns
returns c = dated_are
