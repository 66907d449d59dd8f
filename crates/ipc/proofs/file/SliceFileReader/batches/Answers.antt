use Rattle.std.proofs.Common.{map, arith}
use Rattle.std.proofs.lemmas.Result.{err_from_is_err_and}
use Rattle.ipc.specs.Streams.{record_batch_of}
use Rattle.ipc.specs.Files.{batches_of_file}
use Rattle.ipc.proofs.BlockLoops.{batch_fails, batch_goes_on, batches_end}
use Rattle.ipc.proofs.file.SliceFileReader.batches.Goals as goal

pub returns-in_err-batch : goal.returns-in_err-batch
returns-in_err-batch c =
    let p = err_from_is_err_and c.from_residual.result c.from_residual.ensures.1 in
    let r = c.args.self.now in
    rw (p.1, p.2) (batch_fails r.state r.bytes r.blocks c.loop-i.i c.in_err-batch.field-0.0 (map record_batch_of c.loop-i.batches.items) (batches_of_file r) (omega (arith, c.loop-i-test.true, c.loop-i.invariant.end)) c.in_err-batch.ensures c.loop-i.invariant.left)

pub loop-i-preserved : goal.loop-i-preserved
loop-i-preserved c =
    let r = c.args.self.now in
    record {
      end = c.loop-i.invariant.end;
      left = batch_goes_on r.state r.bytes r.blocks c.loop-i.i record_batch_of c.loop-i.batches.items c.push.new.self.items c.in_ok-batch.batch (batches_of_file r) c.in_ok-push.ensures.items (omega (arith, c.loop-i-test.true, c.loop-i.invariant.end)) c.in_ok-batch.ensures c.loop-i.invariant.left;
    }

pub returns : goal.returns
returns c =
    let r = c.args.self.now in
    batches_end r.state r.bytes r.blocks c.loop-i.i (map record_batch_of c.loop-i.batches.items) (batches_of_file r) (omega (arith, c.loop-i-test.false, c.loop-i.invariant.end)) c.loop-i.invariant.left
