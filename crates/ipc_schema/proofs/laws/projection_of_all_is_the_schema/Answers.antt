use Rattle.ipc_schema.specs.ProjectionLaws.{stream_projection_of_all_is_schema}
use Rattle.ipc_schema.proofs.laws.projection_of_all_is_the_schema.Goals as goal

pub returns : goal.returns
returns c = stream_projection_of_all_is_schema
