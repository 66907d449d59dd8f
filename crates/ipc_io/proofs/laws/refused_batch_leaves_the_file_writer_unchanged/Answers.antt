use Rattle.ipc_io.specs.FileWriterLaws.{refused_stays, failed_file_stays}
use Rattle.ipc_io.proofs.laws.refused_batch_leaves_the_file_writer_unchanged.Goals as goal

pub returns-clause-refused : goal.returns-clause-refused
returns-clause-refused g c = refused_stays g.W.Write.contents

pub returns-clause-failed : goal.returns-clause-failed
returns-clause-failed g c = failed_file_stays g.W.Write.contents
