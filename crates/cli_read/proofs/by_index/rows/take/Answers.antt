use Rattle.std.proofs.Common.{inl}
use Rattle.std.proofs.lemmas.Result.{IfErr-weaker, IfOk-weaker}
use Rattle.ipc_schema.specs.Projections.{projection_of}
use Rattle.cli_rows.specs.Tables.{table_of}
use Rattle.cli_read.specs.Inputs.{decoded_input}
use Rattle.cli_read.specs.Readers.{reader_schema, remaining_batches}
use Rattle.cli_read.proofs.ProjectedNames.{names-follow, take-fails-opened, takes-opened, untaken}
use Rattle.cli_read.proofs.by_index.rows.take.Goals as goal

pub returns-in-Err-clause-error : goal.returns-in-Err-clause-error
returns-in-Err-clause-error g c =
    let picks = projection_of c.args.columns in
    let x = decoded_input g.R.Read.remaining g.R.Seek.stream_position g.R.Seek.stream_bytes picks c.args.input in
    untaken picks c.args.wanted.now x c.in-Err.error c.in-Err.ensures.error

pub returns-in-Ok-clause-rows : goal.returns-in-Ok-clause-rows
returns-in-Ok-clause-rows g c =
    let picks = projection_of c.args.columns in
    let x = decoded_input g.R.Read.remaining g.R.Seek.stream_position g.R.Seek.stream_bytes picks c.args.input in
    let s = reader_schema c.in-Ok.reader in
    let left = remaining_batches g.R.Read.remaining g.R.Seek.stream_position g.R.Seek.stream_bytes in
    IfOk-weaker c.take_from_reader.result _ _ (λ table h. takes-opened c.args.wanted.now x s (left c.in-Ok.reader) (table_of table) c.in-Ok.ensures.opened h) c.take_from_reader.ensures.rows

pub returns-in-Ok-clause-error : goal.returns-in-Ok-clause-error
returns-in-Ok-clause-error g c =
    let picks = projection_of c.args.columns in
    let x = decoded_input g.R.Read.remaining g.R.Seek.stream_position g.R.Seek.stream_bytes picks c.args.input in
    let s = reader_schema c.in-Ok.reader in
    let left = remaining_batches g.R.Read.remaining g.R.Seek.stream_position g.R.Seek.stream_bytes in
    IfErr-weaker c.take_from_reader.result _ _ (λ e h. inl (take-fails-opened c.args.wanted.now x s (left c.in-Ok.reader) e c.in-Ok.ensures.opened h, names-follow picks x e c.in-Ok.ensures.names)) c.take_from_reader.ensures.error
