use Rattle.ipc_io.specs.FileWriterLaws.{file_put, file_alone, file_form}
use Rattle.ipc_io.proofs.laws.finished_writer_wrote_its_file.Goals as goal

pub returns-clause-put : goal.returns-clause-put
returns-clause-put g c = file_put g.W.Write.contents

pub returns-clause-alone : goal.returns-clause-alone
returns-clause-alone g c = file_alone g.W.Write.contents

pub returns-clause-form : goal.returns-clause-form
returns-clause-form g c = file_form g.W.Write.contents
