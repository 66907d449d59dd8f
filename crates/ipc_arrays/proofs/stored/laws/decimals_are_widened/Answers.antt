use Rattle.ipc_arrays.specs.StoredExamples.{decimals_are}
use Rattle.ipc_arrays.proofs.stored.laws.decimals_are_widened.Goals as goal

pub returns : goal.returns
returns c = decimals_are
