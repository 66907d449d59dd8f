use Rattle.ipc_schema.specs.Projections.{projection_of}
use Rattle.ipc_io.specs.FileReaders.{bytes_of}
use Rattle.cli_read.proofs.Readers.{file-opened, stream-opened}
use Rattle.cli_read.proofs.reader.open_reader.Goals as goal

pub returns-in-Ok-clause-opened : goal.returns-in-Ok-clause-opened
returns-in-Ok-clause-opened g c = rw c.in-Stream.is (stream-opened g.R.Read.remaining (projection_of c.args.columns) c.in-Stream.device c.in-Ok.reader c.in-Ok.ensures)

pub returns-in-Ok-with_projection-clause-opened : goal.returns-in-Ok-with_projection-clause-opened
returns-in-Ok-with_projection-clause-opened g c =
    let bytes = bytes_of g.R.Seek.stream_position g.R.Seek.stream_bytes in
    rw c.in-File.is (file-opened (projection_of c.args.columns) (bytes c.in-File.device) (bytes c.in-Ok-with_projection.reader.inner) c.in-Ok-with_projection.reader c.in-Ok-with_projection.ensures.0 c.in-Ok-with_projection.ensures.1)
