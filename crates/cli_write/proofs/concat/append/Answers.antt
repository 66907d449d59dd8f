use Rattle.std.proofs.Common.{inl}
use Rattle.std.proofs.lemmas.Result.{IfErr-weaker, on_ok_weaker}
use Rattle.ipc_schema.specs.Projections.{projection_of}
use Rattle.cli_read.specs.Inputs.{decoded_input}
use Rattle.cli_read.specs.Readers.{remaining_batches, reader_schema}
use Rattle.cli_write.proofs.ConcatSteps.{more-opened, unappended-opened}
use Rattle.cli_write.proofs.ProjectedNames.{append-follows, unappended}
use Rattle.cli_write.proofs.concat.append.Goals as goal

pub returns-in-Err-clause-error : goal.returns-in-Err-clause-error
returns-in-Err-clause-error g c =
    let picks = projection_of c.args.columns in
    let x = decoded_input g.R.Read.remaining g.R.Seek.stream_position g.R.Seek.stream_bytes picks c.args.input in
    unappended g.W.Write.contents picks x c.args.writer.now c.in-Err.error c.in-Err.ensures.error

pub returns-in-Ok-clause-put : goal.returns-in-Ok-clause-put
returns-in-Ok-clause-put g c =
    let x = decoded_input g.R.Read.remaining g.R.Seek.stream_position g.R.Seek.stream_bytes (projection_of c.args.columns) c.args.input in
    let r = reader_schema c.in-Ok.reader in
    let t = remaining_batches g.R.Read.remaining g.R.Seek.stream_position g.R.Seek.stream_bytes c.in-Ok.reader in
    on_ok_weaker c.append_reader.result (λ h form start s went p. more-opened g.W.Write.contents form start s went x r t c.append_reader.new.writer c.in-Ok.ensures.opened (h form start s went p)) c.append_reader.ensures.put

pub returns-in-Ok-clause-error : goal.returns-in-Ok-clause-error
returns-in-Ok-clause-error g c =
    let picks = projection_of c.args.columns in
    let x = decoded_input g.R.Read.remaining g.R.Seek.stream_position g.R.Seek.stream_bytes picks c.args.input in
    let r = reader_schema c.in-Ok.reader in
    let t = remaining_batches g.R.Read.remaining g.R.Seek.stream_position g.R.Seek.stream_bytes c.in-Ok.reader in
    IfErr-weaker c.append_reader.result _ _ (λ e h. inl ((λ form start s went p. unappended-opened e form s went x r t c.in-Ok.ensures.opened (h form start s went p)), append-follows picks x e c.in-Ok.ensures.names)) c.append_reader.ensures.error
