use Rattle.ipc.specs.StreamsInFilesExamples.{worked_names}
use Rattle.ipc.proofs.file_laws.file_holds_its_stream.Goals as goal

pub returns : goal.returns
returns c = worked_names
