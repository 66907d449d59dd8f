use Rattle.ipc_arrays.specs.NeededBufferLaws.{columns_use_their_buffers}
use Rattle.ipc_arrays.proofs.laws.columns_use_their_buffers.Goals as goal

pub returns : goal.returns
returns c = columns_use_their_buffers
