use Rattle.std.proofs.Common.{◌≡◌, ◌∙◌, sym, subst}
use Rattle.std.proofs.lemmas.Bool.{not-false, not-true}
use Rattle.std.proofs.lemmas.Bool.Decides.{not_from_Decides}
use Rattle.ipc_schema.specs.SchemaEq.{same_schema-decides}
use Rattle.ipc_schema.specs.Schemas.{SchemaModel}
use Rattle.cli_read.specs.Readers.{remaining_batches, reader_schema}
use Rattle.cli_read.proofs.Readers.{fresh}
use Rattle.cli_write.specs.Writers.{HasWritten}
use Rattle.cli_write.proofs.ConcatSteps.{put-more, put-schema, stops-more, unlike}
use Rattle.cli_write.proofs.concat.append_reader.Goals as goal

pub returns-then-ne-clause-error : goal.returns-then-ne-clause-error
returns-then-ne-clause-error g c = λ form start s went p.
    let r = reader_schema c.args.reader in
    let t = remaining_batches g.R.Read.remaining g.R.Seek.stream_position g.R.Seek.stream_bytes c.args.reader in
    let f = fresh g.R.Read.remaining g.R.Seek.stream_position g.R.Seek.stream_bytes c.args.reader in
    unlike form r s went t f
    (λ e. not_from_Decides _ (same_schema-decides _ _) (not-true _ (sym c.ne.ensures ∙ c.if-ne.true)) (c.schema.ensures ∙ put-schema g.W.Write.contents form start s went c.args.writer.now p ∙ sym e ∙ sym c.schema-2.ensures))

pub returns-in-Ok-clause-put : goal.returns-in-Ok-clause-put
returns-in-Ok-clause-put g c = λ form start s went p.
    let r = reader_schema c.args.reader in
    let t = remaining_batches g.R.Read.remaining g.R.Seek.stream_position g.R.Seek.stream_bytes c.args.reader in
    let same : r ≡ s = sym c.schema-2.ensures ∙ sym ((same_schema-decides _ _).0 (not-false _ (sym c.ne.ensures ∙ c.if-ne.false))) ∙ c.schema.ensures ∙ put-schema g.W.Write.contents form start s went c.args.writer.now p in
    put-more g.W.Write.contents form start r s went t c.append_batches.new.writer same (c.in-Ok.ensures.put form start went (subst (λ (x : SchemaModel). HasWritten g.W.Write.contents form start x went c.args.writer.now) (sym same) p))

pub returns-in-Err-clause-error : goal.returns-in-Err-clause-error
returns-in-Err-clause-error g c = λ form start s went p.
    let r = reader_schema c.args.reader in
    let t = remaining_batches g.R.Read.remaining g.R.Seek.stream_position g.R.Seek.stream_bytes c.args.reader in
    let f = fresh g.R.Read.remaining g.R.Seek.stream_position g.R.Seek.stream_bytes c.args.reader in
    let same : r ≡ s = sym c.schema-2.ensures ∙ sym ((same_schema-decides _ _).0 (not-false _ (sym c.ne.ensures ∙ c.if-ne.false))) ∙ c.schema.ensures ∙ put-schema g.W.Write.contents form start s went c.args.writer.now p in
    stops-more form r s went t c.in-Err.error f same (c.in-Err.ensures.error form start went (subst (λ (x : SchemaModel). HasWritten g.W.Write.contents form start x went c.args.writer.now) (sym same) p))
