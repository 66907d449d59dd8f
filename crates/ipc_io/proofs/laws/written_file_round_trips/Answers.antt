use Rattle.ipc_io.specs.FileWriterLaws.{file_read, file_same, file_plain}
use Rattle.ipc_io.proofs.laws.written_file_round_trips.Goals as goal

pub returns-clause-read : goal.returns-clause-read
returns-clause-read g c = file_read g.W.Write.contents

pub returns-clause-same : goal.returns-clause-same
returns-clause-same g c = file_same g.W.Write.contents

pub returns-clause-plain : goal.returns-clause-plain
returns-clause-plain g c = file_plain g.W.Write.contents
