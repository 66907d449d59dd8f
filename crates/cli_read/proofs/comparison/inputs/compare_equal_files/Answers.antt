use Rattle.ipc_schema.specs.Projections.{projection_of}
use Rattle.cli_read.specs.Inputs.{decoded_input}
use Rattle.cli_read.specs.Readers.{reader_schema, remaining_batches}
use Rattle.cli_read.proofs.EqualFiles.{as-opened}
use Rattle.cli_read.proofs.ProjectedNames.{compares-columns, first-uncompared}
use Rattle.cli_read.proofs.comparison.inputs.compare_equal_files.Goals as goal

pub returns-in-Err : goal.returns-in-Err
returns-in-Err g c =
    let picks = projection_of c.args.columns in
    let x = decoded_input g.R.Read.remaining g.R.Seek.stream_position g.R.Seek.stream_bytes picks c.args.input in
    first-uncompared picks x x c.in-Err.error c.in-Err.ensures.error

pub returns-in-Ok : goal.returns-in-Ok
returns-in-Ok g c =
    let picks = projection_of c.args.columns in
    let x = decoded_input g.R.Read.remaining g.R.Seek.stream_position g.R.Seek.stream_bytes picks c.args.input in
    let t = remaining_batches g.R.Read.remaining g.R.Seek.stream_position g.R.Seek.stream_bytes c.in-Ok.reader in
    let same = as-opened x (reader_schema c.in-Ok.reader) t c.read_equal.result c.in-Ok.ensures.opened c.read_equal.ensures in
    compares-columns picks x x c.read_equal.result same c.in-Ok.ensures.names c.in-Ok.ensures.names
