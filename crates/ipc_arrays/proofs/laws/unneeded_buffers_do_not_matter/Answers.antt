use Rattle.ipc_arrays.specs.NeededBufferLaws.{unneeded_buffers_do_not_matter}
use Rattle.ipc_arrays.proofs.laws.unneeded_buffers_do_not_matter.Goals as goal

pub returns : goal.returns
returns c = unneeded_buffers_do_not_matter
