use Rattle.std.proofs.lemmas.Result.{IfErr-weaker, IfOk-weaker}
use Rattle.std.proofs.Common.{Err}
use Rattle.ipc_schema.specs.Projections.{projection_of}
use Rattle.cli_read.specs.Inputs.{decoded_input}
use Rattle.cli_read.specs.Readers.{remaining_batches, reader_schema}
use Rattle.cli_args.specs.Requests.{all}
use Rattle.cli_write.proofs.ConcatSteps.{put-first}
use Rattle.cli_write.proofs.CopySteps.{opened}
use Rattle.cli_write.proofs.ProjectedNames.{copies-columns, uncopied}
use Rattle.cli_write.proofs.concat.begin_concat.Goals as goal

pub returns-in-Err-clause-error : goal.returns-in-Err-clause-error
returns-in-Err-clause-error g c =
    let picks = projection_of c.args.columns in
    let x = decoded_input g.R.Read.remaining g.R.Seek.stream_position g.R.Seek.stream_bytes picks c.args.input in
    uncopied g.W.Write.contents picks c.args.format all x c.args.out c.in-Err.error c.in-Err.ensures.error

pub returns-in-Ok-clause-put : goal.returns-in-Ok-clause-put
returns-in-Ok-clause-put g c =
    let x = decoded_input g.R.Read.remaining g.R.Seek.stream_position g.R.Seek.stream_bytes (projection_of c.args.columns) c.args.input in
    let s = reader_schema c.in-Ok.reader in
    let t = remaining_batches g.R.Read.remaining g.R.Seek.stream_position g.R.Seek.stream_bytes c.in-Ok.reader in
    IfOk-weaker c.begin_from_reader.result _ _ (λ writer p. put-first g.W.Write.contents c.args.format x s t c.args.out writer c.in-Ok.ensures.opened p) c.begin_from_reader.ensures.put

pub returns-in-Ok-clause-error : goal.returns-in-Ok-clause-error
returns-in-Ok-clause-error g c =
    let picks = projection_of c.args.columns in
    let x = decoded_input g.R.Read.remaining g.R.Seek.stream_position g.R.Seek.stream_bytes picks c.args.input in
    let s = reader_schema c.in-Ok.reader in
    let t = remaining_batches g.R.Read.remaining g.R.Seek.stream_position g.R.Seek.stream_bytes c.in-Ok.reader in
    IfErr-weaker c.begin_from_reader.result _ _ (λ stop h. copies-columns g.W.Write.contents picks c.args.format all x c.args.out (Err stop) (opened g.W.Write.contents c.args.format all x s t c.args.out (Err stop) c.in-Ok.ensures.opened h) c.in-Ok.ensures.names) c.begin_from_reader.ensures.error
