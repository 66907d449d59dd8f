use Rattle.ipc_io.specs.WriterLaws.{stream_read, stream_same}
use Rattle.ipc_io.proofs.laws.written_stream_round_trips.Goals as goal

pub returns-clause-read : goal.returns-clause-read
returns-clause-read g c = stream_read g.W.Write.contents

pub returns-clause-same : goal.returns-clause-same
returns-clause-same g c = stream_same g.W.Write.contents
