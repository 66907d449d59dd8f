use Rattle.std.proofs.Common.{ℕ, length}
use Rattle.std.proofs.lemmas.Result.{err_from_is_err_and, on_ok_weaker}
use Rattle.ipc_flatbuf.specs.MessageBytes.{metadata_size}
use Rattle.ipc_flatbuf.specs.Batches.{BatchModel, batch_of}
use Rattle.ipc_flatbuf.specs.BatchBytes.{batch_part_bytes, batch_message}
use Rattle.ipc_flatbuf.specs.BatchLaws.{batch_part_is_shorter, write_error_of_whole, batch_round_trips_with_bodies}
use Rattle.ipc_flatbuf.proofs.batch.writing.write_batch.Goals as goal

pub returns-in_err-check_counts-clause-size : goal.returns-in_err-check_counts-clause-size
returns-in_err-check_counts-clause-size c =
    let p = err_from_is_err_and c.from_residual.result c.from_residual.ensures.1 in
    let b : BatchModel = batch_of c.args.batch.now in
    let long : ℕ = c.args.body_length in
    rw (p.1, p.2) (write_error_of_whole b _ (length (batch_part_bytes b)) (metadata_size (batch_message b long)) (batch_part_is_shorter b long) c.in_err-check_counts.ensures.size)

pub returns-clause-again : goal.returns-clause-again
returns-clause-again c = on_ok_weaker c.write_message.result (λ h. batch_round_trips_with_bodies (batch_of c.args.batch.now) c.args.body_length c.in_ok-write_batch_part.ensures.fits c.requires) c.write_message.ensures.ok
