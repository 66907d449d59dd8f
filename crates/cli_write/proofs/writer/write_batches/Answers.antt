use Rattle.std.proofs.Common.{List, [], ◌∷◌, ◌++◌, ◌+◌, ◌∙◌, map, take, drop, ap, sym, subst, append-nil, append_assoc}
use Rattle.std.proofs.lemmas.Result.{err_from_is_err_and}
use Rattle.ipc_schema.specs.Schemas.{SchemaModel}
use Rattle.ipc.specs.Streams.{RecordBatchTree, record_batch_of}
use Rattle.ipc.specs.EncodedBatches.{all_taken, split, taken}
use Rattle.cli_args.specs.declared.format.Format as forms
use Rattle.cli_write.specs.Writers.{HasWritten}
use Rattle.cli_write.proofs.CopySteps.{part-of}
use Rattle.cli_write.proofs.writer.write_batches.Goals as goal

pub loop-batch-init : goal.loop-batch-init
loop-batch-init g c = λ form start s went p. subst (λ (bs : List RecordBatchTree). HasWritten g.W.Write.contents form start s bs c.args.writer.now) (sym (append-nil went)) p

pub loop-batch-preserved : goal.loop-batch-preserved
loop-batch-preserved g c = λ form start s went p.
    let bs = c.args.batches.now in
    let i = c.loop-batch.batch-index in
    let b = c.batch-item.result in
    let more = taken record_batch_of bs i b c.loop-batch-test.true c.batch-item.is in
    subst (λ (vs : List RecordBatchTree). HasWritten g.W.Write.contents form start s vs c.write.new.self) (append_assoc went (map record_batch_of (take i bs)) (record_batch_of b ∷ []) ∙ ap (λ (vs : List RecordBatchTree). went ++ vs) (sym more))
    (c.in_ok-write.ensures.put form start s (went ++ map record_batch_of (take i bs)) (c.loop-batch.invariant form start s went p))

pub returns-in_err-write-clause-error : goal.returns-in_err-write-clause-error
returns-in_err-write-clause-error g c =
    let q = err_from_is_err_and c.from_residual.result c.from_residual.ensures.1 in
    let bs = c.args.batches.now in
    let i = c.loop-batch.batch-index in
    let b = c.batch-item.result in
    let all = split record_batch_of bs i b c.loop-batch-test.true c.batch-item.is in
    rw (q.1, q.2) (λ form start s went p. part-of c.in_err-write.field-0.0 form s (went ++ map record_batch_of (take i bs)) (record_batch_of b) (map record_batch_of (drop (i + 1) bs)) (went ++ map record_batch_of bs)
    (ap (λ (vs : List RecordBatchTree). went ++ vs) all ∙ sym (append_assoc went (map record_batch_of (take i bs)) (record_batch_of b ∷ map record_batch_of (drop (i + 1) bs))))
    (c.in_err-write.ensures.error form start s (went ++ map record_batch_of (take i bs)) (c.loop-batch.invariant form start s went p)))

pub returns-clause-put : goal.returns-clause-put
returns-clause-put g c = λ form start s went p.
    let bs = c.args.batches.now in
    subst (λ (vs : List RecordBatchTree). HasWritten g.W.Write.contents form start s (went ++ vs) c.loop-batch.writer) (all_taken record_batch_of bs c.loop-batch.batch-index c.loop-batch-test.false) (c.loop-batch.invariant form start s went p)
