use Rattle.std.proofs.Common.{◌≡◌, arith}
use Rattle.std.proofs.lemmas.Result.{err_from_is_err_and}
use Rattle.ipc_schema.specs.Projections.{all}
use Rattle.ipc.specs.Files.{file_reader_in}
use Rattle.ipc.specs.Streams.{record_batch_of}
use Rattle.guide.proofs.Last.{last_fails, last_is}
use Rattle.guide.proofs.files.in_memory.last_batch.Goals as goal

pub returns-in_err-batch : goal.returns-in_err-batch
returns-in_err-batch c =
    let p = err_from_is_err_and c.from_residual-in_err-batch.result c.from_residual-in_err-batch.ensures.1 in
    let some : c.len-count.result ≡ 0 → ⊥ = omega (arith, c.if-count-eq0.false) in
    rw (p.1, p.2) (last_fails c.in_ok-reader.reader (file_reader_in all c.args.bytes.now) c.len-count.result c.in_err-batch.field-0.0 c.in_ok-reader.ensures c.len-count.ensures some c.in_err-batch.ensures)

pub returns : goal.returns
returns c =
    let some : c.len-count.result ≡ 0 → ⊥ = omega (arith, c.if-count-eq0.false) in
    last_is c.in_ok-reader.reader (file_reader_in all c.args.bytes.now) c.len-count.result (record_batch_of c.in_ok-batch.batch) c.in_ok-reader.ensures c.len-count.ensures some c.in_ok-batch.ensures
