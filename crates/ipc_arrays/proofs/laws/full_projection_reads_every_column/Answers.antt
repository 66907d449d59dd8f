use Rattle.ipc_arrays.specs.ProjectionLaws.{projection_same}
use Rattle.ipc_arrays.proofs.laws.full_projection_reads_every_column.Goals as goal

pub returns : goal.returns
returns c = projection_same
