use Rattle.ipc.specs.StreamsInFilesLaws.{read_as_stream}
use Rattle.ipc.proofs.file_laws.file_is_read_as_the_stream_it_holds.Goals as goal

pub returns : goal.returns
returns c = read_as_stream
