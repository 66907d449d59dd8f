use Rattle.ipc_schema.specs.Projections.{projection_of}
use Rattle.cli_args.specs.RequestTrees.{selection_tree}
use Rattle.cli_read.specs.Inputs.{decoded_input}
use Rattle.cli_read.specs.Readers.{reader_schema, remaining_batches}
use Rattle.cli_write.proofs.CopySteps.{opened}
use Rattle.cli_write.proofs.ProjectedNames.{copies-columns, uncopied}
use Rattle.cli_write.proofs.copier.copy.Goals as goal

pub returns-in-Err : goal.returns-in-Err
returns-in-Err g c =
    let picks = projection_of c.args.columns in
    let x = decoded_input g.R.Read.remaining g.R.Seek.stream_position g.R.Seek.stream_bytes picks c.args.input in
    uncopied g.W.Write.contents picks c.args.format (selection_tree c.args.selection) x c.args.out c.in-Err.error c.in-Err.ensures.error

pub returns-in-Ok : goal.returns-in-Ok
returns-in-Ok g c =
    let picks = projection_of c.args.columns in
    let x = decoded_input g.R.Read.remaining g.R.Seek.stream_position g.R.Seek.stream_bytes picks c.args.input in
    let reader = c.in-Ok.reader in
    let t = remaining_batches g.R.Read.remaining g.R.Seek.stream_position g.R.Seek.stream_bytes reader in
    let copied = opened g.W.Write.contents c.args.format (selection_tree c.args.selection) x (reader_schema reader) t c.args.out c.copy_reader.result c.in-Ok.ensures.opened c.copy_reader.ensures in
    copies-columns g.W.Write.contents picks c.args.format (selection_tree c.args.selection) x c.args.out c.copy_reader.result copied c.in-Ok.ensures.names
