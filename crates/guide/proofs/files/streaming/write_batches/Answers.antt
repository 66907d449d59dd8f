use Rattle.std.proofs.Common.{List, map, take, subst, sym, arith}
use Rattle.ipc_schema.specs.Schemas.{schema_of}
use Rattle.ipc.specs.Streams.{RecordBatchTree, record_batch_of}
use Rattle.ipc_io.specs.WriterLaws.{WritesBatches}
use Rattle.ipc.specs.EncodedBatches.{all_taken, taken}
use Rattle.guide.proofs.Streaming.{all_again, all_put, writes_push}
use Rattle.guide.proofs.files.streaming.write_batches.Goals as goal

pub loop-batch-preserved : goal.loop-batch-preserved
loop-batch-preserved g c =
    let contents = g.W.Write.contents in
    let batches = c.args.batches.now in
    let i = c.loop-batch.batch-index in
    let x = c.batch-item.result in
    subst (λ (bs : List RecordBatchTree). WritesBatches contents bs c.in_ok-writer.writer c.write.new.self) (sym (taken record_batch_of batches i x c.loop-batch-test.true c.batch-item.is))
    (writes_push contents (map record_batch_of (take i batches)) (record_batch_of x) c.in_ok-writer.writer c.loop-batch.writer c.write.new.self c.loop-batch.invariant (c.in_ok-write.ensures.put, c.in_ok-write.ensures.again))

pub returns-clause-put : goal.returns-clause-put
returns-clause-put g c =
    let contents = g.W.Write.contents in
    let batches = c.args.batches.now in
    let done = subst (λ (bs : List RecordBatchTree). WritesBatches contents bs c.in_ok-writer.writer c.loop-batch.writer) (all_taken record_batch_of batches c.loop-batch.batch-index (omega (arith, c.loop-batch-test.false))) c.loop-batch.invariant in
    all_put contents (schema_of c.args.schema.now) (map record_batch_of batches) c.args.output c.in_ok-writer.writer c.loop-batch.writer c.finish.result c.in_ok-writer.ensures.begun c.in_ok-writer.ensures.again done c.finish.ensures

pub returns-clause-again : goal.returns-clause-again
returns-clause-again g c =
    let contents = g.W.Write.contents in
    let batches = c.args.batches.now in
    let done = subst (λ (bs : List RecordBatchTree). WritesBatches contents bs c.in_ok-writer.writer c.loop-batch.writer) (all_taken record_batch_of batches c.loop-batch.batch-index (omega (arith, c.loop-batch-test.false))) c.loop-batch.invariant in
    all_again contents (schema_of c.args.schema.now) (map record_batch_of batches) c.args.output c.in_ok-writer.writer c.loop-batch.writer c.finish.result c.in_ok-writer.ensures.begun c.in_ok-writer.ensures.again done c.finish.ensures
