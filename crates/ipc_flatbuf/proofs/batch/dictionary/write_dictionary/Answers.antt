use Rattle.std.proofs.Common.{ℕ, length}
use Rattle.std.proofs.lemmas.Result.{err_from_is_err_and, on_ok_weaker}
use Rattle.ipc_flatbuf.specs.MessageBytes.{metadata_size}
use Rattle.ipc_flatbuf.specs.Batches.{BatchModel, batch_of}
use Rattle.ipc_flatbuf.specs.BatchBytes.{batch_part_bytes}
use Rattle.ipc_flatbuf.specs.BatchLaws.{write_error_of_whole}
use Rattle.ipc_flatbuf.specs.DictionaryBytes.{dictionary_message}
use Rattle.ipc_flatbuf.specs.DictionaryLaws.{dictionary_part_is_shorter, dictionary_round_trips_with_bodies}
use Rattle.ipc_flatbuf.proofs.batch.dictionary.write_dictionary.Goals as goal

pub returns-in_err-check_counts-clause-err : goal.returns-in_err-check_counts-clause-err
returns-in_err-check_counts-clause-err c =
    let p = err_from_is_err_and c.from_residual.result c.from_residual.ensures.1 in
    let b : BatchModel = batch_of c.args.metadata.now in
    let long : ℕ = c.args.body_length in
    rw (p.1, p.2) (write_error_of_whole b _ (length (batch_part_bytes b)) (metadata_size (dictionary_message c.args.delta c.args.id b long)) (dictionary_part_is_shorter c.args.delta c.args.id b long) c.in_err-check_counts.ensures.size)

pub returns-clause-again : goal.returns-clause-again
returns-clause-again c = on_ok_weaker c.write_message.result (λ h. dictionary_round_trips_with_bodies c.args.delta c.args.id (batch_of c.args.metadata.now) c.args.body_length c.ranges.id c.in_ok-write_batch_part.ensures.fits c.requires) c.write_message.ensures.ok
