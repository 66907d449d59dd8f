use Rattle.std.proofs.Common.{map}
use Rattle.std.proofs.lemmas.Result.{err_from_is_err_and}
use Rattle.nest_array.specs.Seen.{layout_of}
use Rattle.ipc_flatbuf.specs.Batches.{batch_of}
use Rattle.ipc_flatbuf.specs.BatchBytes.{batch_message}
use Rattle.ipc_flatbuf.specs.BatchLaws.{BatchRoundTrips}
use Rattle.ipc.specs.Streams.{RecordBatchTree}
use Rattle.ipc.specs.EncodedStreams.{batch_head, record_batch_error}
use Rattle.ipc.specs.EncodedStreamLaws.{batch_again}
use Rattle.ipc.proofs.WriteErrors.{columns_refused, head_refused, head_accepted, head_again}
use Rattle.ipc.proofs.writing.write_record_batch.Goals as goal

pub returns-in_err-metadata-clause-err : goal.returns-in_err-metadata-clause-err
unfolding record_batch_error
returns-in_err-metadata-clause-err c =
    let b : RecordBatchTree = record { rows = c.args.rows; columns = map layout_of c.args.columns.now } in
    let p = err_from_is_err_and c.from_residual.result c.from_residual.ensures.1 in
    rw (p.1, p.2) (columns_refused b.columns b.rows (batch_head b) _ c.in_err-metadata.ensures.err)

pub returns-in_err-write_batch-clause-err : goal.returns-in_err-write_batch-clause-err
unfolding record_batch_error
returns-in_err-write_batch-clause-err c =
    let b : RecordBatchTree = record { rows = c.args.rows; columns = map layout_of c.args.columns.now } in
    let said = c.in_ok-metadata in
    let p = err_from_is_err_and c.from_residual-in_err-write_batch.result c.from_residual-in_err-write_batch.ensures.1 in
    rw (p.1, p.2) (head_refused batch_message b (batch_of said.metadata) said.body_length said.ensures.metadata _ said.ensures.form c.in_err-write_batch.ensures.size)

pub returns-clause-again : goal.returns-clause-again
returns-clause-again c =
    let b : RecordBatchTree = record { rows = c.args.rows; columns = map layout_of c.args.columns.now } in
    let said = c.in_ok-metadata in
    let written = c.in_ok-write_batch.ensures in
    batch_again b (head_again batch_message b (batch_of said.metadata) said.body_length said.ensures.metadata BatchRoundTrips written.again written.small) c.in_ok-write_columns.ensures.over

pub returns-clause-form : goal.returns-clause-form
unfolding record_batch_error
returns-clause-form c =
    let b : RecordBatchTree = record { rows = c.args.rows; columns = map layout_of c.args.columns.now } in
    let said = c.in_ok-metadata in
    let written = c.in_ok-write_batch.ensures in
    head_accepted batch_message b (batch_of said.metadata) said.body_length said.ensures.metadata said.ensures.form written.rows written.small
