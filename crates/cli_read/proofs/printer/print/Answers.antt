use Rattle.ipc_schema.specs.Projections.{projection_of}
use Rattle.cli_args.specs.RequestTrees.{request_tree}
use Rattle.cli_read.specs.Inputs.{decoded_input}
use Rattle.cli_read.specs.Readers.{reader_schema, remaining_batches}
use Rattle.cli_read.proofs.PrintSteps.{opened}
use Rattle.cli_read.proofs.ProjectedNames.{prints-columns, unprinted}
use Rattle.cli_read.proofs.printer.print.Goals as goal

pub returns-in-Err : goal.returns-in-Err
returns-in-Err g c =
    let picks = projection_of c.args.columns in
    let x = decoded_input g.R.Read.remaining g.R.Seek.stream_position g.R.Seek.stream_bytes picks c.args.input in
    unprinted picks (request_tree c.args.request) x (g.W.Write.contents c.args.out.now) c.in-Err.error c.in-Err.ensures.error

pub returns-in-Ok : goal.returns-in-Ok
returns-in-Ok g c =
    let picks = projection_of c.args.columns in
    let x = decoded_input g.R.Read.remaining g.R.Seek.stream_position g.R.Seek.stream_bytes picks c.args.input in
    let q = request_tree c.args.request in
    let old = g.W.Write.contents c.args.out.now in
    let new = g.W.Write.contents c.print_reader.new.out in
    let left = remaining_batches g.R.Read.remaining g.R.Seek.stream_position g.R.Seek.stream_bytes in
    prints-columns picks q x c.print_reader.result old new
    (opened q x (reader_schema c.in-Ok.reader) (left c.in-Ok.reader) c.print_reader.result old new c.in-Ok.ensures.opened c.print_reader.ensures) c.in-Ok.ensures.names
