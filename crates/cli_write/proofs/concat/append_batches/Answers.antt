use Rattle.std.proofs.Common.{refl}
use Rattle.cli_read.specs.Readers.{remaining_batches, reader_schema}
use Rattle.cli_read.proofs.Readers.{fresh}
use Rattle.cli_args.specs.Requests.{all}
use Rattle.cli_write.proofs.ConcatSteps.{begun-all, put-all}
use Rattle.cli_write.proofs.concat.append_batches.Goals as goal

pub returns-in-Ok-clause-put : goal.returns-in-Ok-clause-put
returns-in-Ok-clause-put g c = λ form start front p.
    let s = reader_schema c.args.reader in
    let t = remaining_batches g.R.Read.remaining g.R.Seek.stream_position g.R.Seek.stream_bytes c.args.reader in
    let f = fresh g.R.Read.remaining g.R.Seek.stream_position g.R.Seek.stream_bytes c.args.reader in
    put-all g.W.Write.contents form s t start front c.in-Ok.field-0 c.copy_all.new.writer (c.in-Ok.ensures.copied form all s t start front refl (begun-all g.W.Write.contents form s t start front c.args.writer.now f p))

pub returns-clause-error : goal.returns-clause-error
returns-clause-error g c = λ form start front p.
    let s = reader_schema c.args.reader in
    let t = remaining_batches g.R.Read.remaining g.R.Seek.stream_position g.R.Seek.stream_bytes c.args.reader in
    let f = fresh g.R.Read.remaining g.R.Seek.stream_position g.R.Seek.stream_bytes c.args.reader in
    c.in-Err.ensures.error form all s t start front refl (begun-all g.W.Write.contents form s t start front c.args.writer.now f p)
