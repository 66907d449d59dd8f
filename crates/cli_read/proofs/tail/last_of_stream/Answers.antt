use Rattle.std.proofs.lemmas.Result.{IfErr-weaker, IfOk-weaker}
use Rattle.ipc_schema.specs.Projections.{projection_of}
use Rattle.cli_rows.specs.Rows.{rows_of_arrays}
use Rattle.cli_read.specs.Readers.{reader_schema, remaining_batches}
use Rattle.cli_read.proofs.StreamTails.{last-of-stream, tail-of-stream-fails}
use Rattle.cli_read.proofs.tail.last_of_stream.Goals as goal

pub returns-in-Ok-clause-rows : goal.returns-in-Ok-clause-rows
returns-in-Ok-clause-rows g c =
    let left = remaining_batches g.R.Read.remaining g.R.Seek.stream_position g.R.Seek.stream_bytes in
    let r = c.in-Ok.reader in
    IfOk-weaker c.read_on.result _ _ (λ v h. last-of-stream c.args.count (projection_of c.args.columns) (g.R.Read.remaining c.args.device) (reader_schema r) (left r) (rows_of_arrays v.items) c.in-Ok.ensures.opened h) c.read_on.ensures.rows

pub returns-in-Ok-clause-error : goal.returns-in-Ok-clause-error
returns-in-Ok-clause-error g c =
    let left = remaining_batches g.R.Read.remaining g.R.Seek.stream_position g.R.Seek.stream_bytes in
    let r = c.in-Ok.reader in
    IfErr-weaker c.read_on.result _ _ (λ e h. tail-of-stream-fails (projection_of c.args.columns) (g.R.Read.remaining c.args.device) (reader_schema r) (left r) e c.in-Ok.ensures.opened c.in-Ok.ensures.names h) c.read_on.ensures.error
