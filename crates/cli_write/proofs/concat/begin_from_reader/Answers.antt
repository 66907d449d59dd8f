use Rattle.std.proofs.Common.{[], refl, subst}
use Rattle.ipc.specs.EncodedStreams.{schema_error}
use Rattle.ipc_schema.specs.Schemas.{SchemaModel}
use Rattle.cli_read.specs.Readers.{remaining_batches, reader_schema}
use Rattle.cli_read.proofs.Readers.{fresh}
use Rattle.cli_args.specs.Requests.{all}
use Rattle.cli_write.specs.Writers.{FailsSchema, HasWritten}
use Rattle.cli_write.proofs.CopySteps.{stopped, unbegun}
use Rattle.cli_write.proofs.concat.begin_from_reader.Goals as goal

pub returns-in-Err-clause-error : goal.returns-in-Err-clause-error
returns-in-Err-clause-error g c =
    let s = reader_schema c.args.reader in
    let t = remaining_batches g.R.Read.remaining g.R.Seek.stream_position g.R.Seek.stream_bytes c.args.reader in
    let f = fresh g.R.Read.remaining g.R.Seek.stream_position g.R.Seek.stream_bytes c.args.reader in
    unbegun g.W.Write.contents c.args.format all s t c.args.out c.in-Err.error f tt refl (subst (λ (x : SchemaModel). FailsSchema c.in-Err.error (schema_error x)) c.schema.ensures c.in-Err.ensures.error)

pub returns-in-Ok-append_batches-clause-put : goal.returns-in-Ok-append_batches-clause-put
returns-in-Ok-append_batches-clause-put g c =
    c.in-Ok-append_batches.ensures.put c.args.format c.args.out [] (subst (λ (x : SchemaModel). HasWritten g.W.Write.contents c.args.format c.args.out x [] c.in-Ok.writer) c.schema.ensures c.in-Ok.ensures.begun)

pub returns-in-Err-append_batches-clause-error : goal.returns-in-Err-append_batches-clause-error
returns-in-Err-append_batches-clause-error g c =
    let s = reader_schema c.args.reader in
    let t = remaining_batches g.R.Read.remaining g.R.Seek.stream_position g.R.Seek.stream_bytes c.args.reader in
    stopped g.W.Write.contents c.args.format all s t c.args.out c.in-Err-append_batches.error
    (c.in-Err-append_batches.ensures.error c.args.format c.args.out [] (subst (λ (x : SchemaModel). HasWritten g.W.Write.contents c.args.format c.args.out x [] c.in-Ok.writer) c.schema.ensures c.in-Ok.ensures.begun))
