use Rattle.std.proofs.Common.{ap}
use Rattle.ipc_schema.specs.ProjectedSchemas.{projected_schema_of}
use Rattle.ipc.specs.Streams.{state_of}
use Rattle.ipc_io.proofs.StreamResults.{goes_still, goes_on, goes_err}
use Rattle.ipc_io.proofs.stream_reader.StreamReader.next_batch.Goals as goal

pub returns-then-self-clause-next : goal.returns-then-self-clause-next
returns-then-self-clause-next g c = goes_still g.R.Read.remaining _ (state_of c.self.inside.state) c.self.inside.inner c.self.inside.over c.self.view_is c.if-self.true

pub returns-in-Ok-clause-next : goal.returns-in-Ok-clause-next
returns-in-Ok-clause-next g c =
    goes_on g.R.Read.remaining _ (state_of c.self.inside.state) (state_of c.read_next.new.state) c.self.inside.inner c.read_next.new.reader c.self.inside.over c.is_none-self-inside.result c.in-Ok.next c.self.view_is c.if-self.false c.is_none-self-inside.ensures
    (ap projected_schema_of c.read_next.ensures.picked) c.in-Ok.ensures.next

pub returns-in-Err-clause-next : goal.returns-in-Err-clause-next
returns-in-Err-clause-next g c =
    goes_err g.R.Read.remaining _ (state_of c.self.inside.state) (state_of c.read_next.new.state) c.self.inside.inner c.read_next.new.reader c.self.inside.over c.in-Err.e c.self.view_is c.if-self.false
    (ap projected_schema_of c.read_next.ensures.picked) c.in-Err.ensures.next
