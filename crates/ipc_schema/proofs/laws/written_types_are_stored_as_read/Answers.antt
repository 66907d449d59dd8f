use Rattle.ipc_schema.specs.ProjectionLaws.{written_is_read, written_as_stored}
use Rattle.ipc_schema.proofs.laws.written_types_are_stored_as_read.Goals as goal

pub returns : goal.returns
returns c = λ s form. (written_is_read s form, written_as_stored s form)
