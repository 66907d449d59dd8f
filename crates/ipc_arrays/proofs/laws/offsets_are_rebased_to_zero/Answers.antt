use Rattle.ipc_arrays.specs.Examples.{binary_column_rebased}
use Rattle.ipc_arrays.proofs.laws.offsets_are_rebased_to_zero.Goals as goal

pub returns : goal.returns
returns c = binary_column_rebased
