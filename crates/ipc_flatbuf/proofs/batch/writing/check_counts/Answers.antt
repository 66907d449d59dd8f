use Rattle.std.proofs.Common.{refl, inl, inr, arith}
use Rattle.ipc_flatbuf.specs.Batches.{batch_of}
use Rattle.ipc_flatbuf.specs.BatchLaws.{batch_long}
use Rattle.ipc_flatbuf.proofs.batch.writing.check_counts.Goals as goal
use Rattle.ipc_flatbuf.proofs.batch.writing.check_counts.Goals.{then-batch-via-then-batch, then-batch-via-else-batch+then-len-few, then-batch-via-else-batch+else-len-few+then-len-few-2}

pub returns-then-batch-clause-size : goal.returns-then-batch-clause-size
returns-then-batch-clause-size c =
    let long = batch_long (batch_of c.args.batch.now) in
    elim c.then-batch.branch [
      | then-batch-via-then-batch w ↦ inr (refl, inl (omega arith))
      | then-batch-via-else-batch+then-len-few w ↦ inr (refl, inr (omega (arith, long, c.args.batch.now.nodes.ok)))
      | then-batch-via-else-batch+else-len-few+then-len-few-2 w ↦ inr (refl, inr (omega (arith, long, c.args.batch.now.buffers.ok)))
    ]
