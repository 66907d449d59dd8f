use Rattle.std.proofs.lemmas.Option.{IfSome_then}
use Rattle.ipc_schema.specs.Projections.{projection_of}
use Rattle.cli_read.specs.Inputs.{decoded_input}
use Rattle.cli_read.specs.Readers.{decoded_reader, reader_schema, remaining_batches}
use Rattle.cli_read.proofs.Counted.{fails-alike, opened-alike}
use Rattle.cli_read.proofs.failures.first_error.Goals as goal

pub returns-in-Ok-clause-error : goal.returns-in-Ok-clause-error
returns-in-Ok-clause-error g c =
    let remaining = g.R.Read.remaining in
    let position = g.R.Seek.stream_position in
    let bytes = g.R.Seek.stream_bytes in
    let picks = projection_of c.args.columns in
    let x = decoded_input remaining position bytes picks c.args.input in
    let r = c.in-Ok.reader in
    IfSome_then c.batch_error.result c.batch_error.ensures.error (λ e h. fails-alike picks x (decoded_reader remaining position bytes r) e (opened-alike x (reader_schema r) (remaining_batches remaining position bytes r) c.in-Ok.ensures.opened) c.in-Ok.ensures.names h)
