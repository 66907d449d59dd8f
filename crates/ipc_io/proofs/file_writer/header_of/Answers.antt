use Rattle.ipc_schema.specs.Schemas.{schema_of}
use Rattle.ipc.specs.Streams.{state_of}
use Rattle.ipc_io.proofs.StreamSteps.{known_first}
use Rattle.ipc_io.proofs.file_writer.header_of.Goals as goal

pub returns-in-Ok-clause-known : goal.returns-in-Ok-clause-known
returns-in-Ok-clause-known c = known_first (state_of c.in_ok-known.known) (schema_of c.args.schema.now) c.in_ok-message.message.items c.in_ok-message.ensures.bytes c.in_ok-message.ensures.again (rw c.deref.ensures.value at c.in_ok-known.ensures.state)
