use Rattle.ipc_schema.specs.Projections.{projection_of}
use Rattle.cli_read.specs.Inputs.{decoded_input}
use Rattle.cli_read.specs.Readers.{remaining_batches, reader_schema}
use Rattle.cli_read.proofs.ProjectedNames.{both-opened, compares-columns, first-uncompared, second-uncompared}
use Rattle.cli_read.proofs.Readers.{fresh}
use Rattle.cli_read.proofs.comparison.inputs.compare_inputs.Goals as goal

pub returns-in-Err : goal.returns-in-Err
returns-in-Err g c =
    let picks = projection_of c.args.columns in
    let x = decoded_input g.R.Read.remaining g.R.Seek.stream_position g.R.Seek.stream_bytes picks c.args.left in
    let y = decoded_input g.S.Read.remaining g.S.Seek.stream_position g.S.Seek.stream_bytes picks c.args.right in
    first-uncompared picks x y c.in-Err.error c.in-Err.ensures.error

pub returns-in-Err-open : goal.returns-in-Err-open
returns-in-Err-open g c =
    let picks = projection_of c.args.columns in
    let of_left = remaining_batches g.R.Read.remaining g.R.Seek.stream_position g.R.Seek.stream_bytes in
    let x = decoded_input g.R.Read.remaining g.R.Seek.stream_position g.R.Seek.stream_bytes picks c.args.left in
    let y = decoded_input g.S.Read.remaining g.S.Seek.stream_position g.S.Seek.stream_bytes picks c.args.right in
    second-uncompared picks x y (reader_schema c.in-Ok.left) (of_left c.in-Ok.left) c.in-Err-open.error c.in-Ok.ensures.opened
    (fresh g.R.Read.remaining g.R.Seek.stream_position g.R.Seek.stream_bytes c.in-Ok.left) c.in-Ok.ensures.names c.in-Err-open.ensures.error

pub returns-in-Ok-open : goal.returns-in-Ok-open
returns-in-Ok-open g c =
    let picks = projection_of c.args.columns in
    let of_left = remaining_batches g.R.Read.remaining g.R.Seek.stream_position g.R.Seek.stream_bytes in
    let of_right = remaining_batches g.S.Read.remaining g.S.Seek.stream_position g.S.Seek.stream_bytes in
    let x = decoded_input g.R.Read.remaining g.R.Seek.stream_position g.R.Seek.stream_bytes picks c.args.left in
    let y = decoded_input g.S.Read.remaining g.S.Seek.stream_position g.S.Seek.stream_bytes picks c.args.right in
    let left = c.in-Ok.left in
    let right = c.in-Ok-open.right in
    compares-columns picks x y c.compare_readers.result
    (both-opened x y (reader_schema left) (reader_schema right) (of_left left) (of_right right) c.compare_readers.result c.in-Ok.ensures.opened c.in-Ok-open.ensures.opened c.compare_readers.ensures)
    c.in-Ok.ensures.names c.in-Ok-open.ensures.names
