use Rattle.std.proofs.Common.{◌≡◌, ◌-◌, length, map, refl, arith}
use Rattle.std.proofs.lemmas.Result.{IfOk-weaker, IfErr-weaker, on_ok_weaker}
use Rattle.nest_array.specs.Seen.{layout_of}
use Rattle.ipc_arrays.specs.Encoding.{columns_body}
use Rattle.ipc.specs.Streams.{RecordBatchTree}
use Rattle.ipc.specs.EncodedStreams.{batch_head, batch_bytes, record_batch_error}
use Rattle.ipc.specs.EncodedFiles.{written_block}
use Rattle.ipc.specs.EncodedBatches.{long_refused, short_accepted}
use Rattle.ipc.proofs.Messages.{IsPut, write_within, write_head, write_block}
use Rattle.ipc.proofs.writing_files.write_record_batch_block.Goals as goal

pub block_between-requires-clause-within : goal.block_between-requires-clause-within
unfolding batch_bytes
block_between-requires-clause-within c =
    let b : RecordBatchTree = record { rows = c.args.rows; columns = map layout_of c.args.columns.now } in
    let old = c.args.out.now.items in
    let new = c.write_record_batch.new.out.items in
    let put : IsPut old new (batch_bytes b) (batch_head b) (columns_body b.columns) c.len-start.result c.len.result c.in_ok-body_length.body_length =
    record { written = c.in_ok-body_length.ensures.bytes; whole = refl; begins = omega (arith, c.len-start.ensures, c.args.out.now.ok); ends = omega (arith, c.len.ensures, c.write_record_batch.new.out.ok); long = c.in_ok-body_length.ensures.body } in
    write_within old new (batch_bytes b) (batch_head b) (columns_body b.columns) c.len-start.result c.len.result c.in_ok-body_length.body_length put

pub returns-clause-block : goal.returns-clause-block
unfolding batch_bytes
returns-clause-block c =
    let b : RecordBatchTree = record { rows = c.args.rows; columns = map layout_of c.args.columns.now } in
    let old = c.args.out.now.items in
    let new = c.write_record_batch.new.out.items in
    let put : IsPut old new (batch_bytes b) (batch_head b) (columns_body b.columns) c.len-start.result c.len.result c.in_ok-body_length.body_length =
    record { written = c.in_ok-body_length.ensures.bytes; whole = refl; begins = omega (arith, c.len-start.ensures, c.args.out.now.ok); ends = omega (arith, c.len.ensures, c.write_record_batch.new.out.ok); long = c.in_ok-body_length.ensures.body } in
    IfOk-weaker c.block_between.result _ (λ block. block ≡ written_block (length old) b) (λ block same. write_block old new (batch_bytes b) (batch_head b) (columns_body b.columns) c.len-start.result c.len.result c.in_ok-body_length.body_length put block same) c.block_between.ensures.block

pub returns-clause-form : goal.returns-clause-form
unfolding batch_bytes
returns-clause-form c =
    let b : RecordBatchTree = record { rows = c.args.rows; columns = map layout_of c.args.columns.now } in
    let old = c.args.out.now.items in
    let new = c.write_record_batch.new.out.items in
    let put : IsPut old new (batch_bytes b) (batch_head b) (columns_body b.columns) c.len-start.result c.len.result c.in_ok-body_length.body_length =
    record { written = c.in_ok-body_length.ensures.bytes; whole = refl; begins = omega (arith, c.len-start.ensures, c.args.out.now.ok); ends = omega (arith, c.len.ensures, c.write_record_batch.new.out.ok); long = c.in_ok-body_length.ensures.body } in
    let long : c.len.result - c.len-start.result - c.in_ok-body_length.body_length ≡ length (batch_head b) = write_head old new (batch_bytes b) (batch_head b) (columns_body b.columns) c.len-start.result c.len.result c.in_ok-body_length.body_length put in
    on_ok_weaker c.block_between.result (λ short. short_accepted (record_batch_error b) (batch_head b) c.in_ok-body_length.ensures.form (omega (arith, long, short))) c.block_between.ensures.short

pub returns-clause-err : goal.returns-clause-err
unfolding batch_bytes
returns-clause-err c =
    let b : RecordBatchTree = record { rows = c.args.rows; columns = map layout_of c.args.columns.now } in
    let old = c.args.out.now.items in
    let new = c.write_record_batch.new.out.items in
    let put : IsPut old new (batch_bytes b) (batch_head b) (columns_body b.columns) c.len-start.result c.len.result c.in_ok-body_length.body_length =
    record { written = c.in_ok-body_length.ensures.bytes; whole = refl; begins = omega (arith, c.len-start.ensures, c.args.out.now.ok); ends = omega (arith, c.len.ensures, c.write_record_batch.new.out.ok); long = c.in_ok-body_length.ensures.body } in
    let long : c.len.result - c.len-start.result - c.in_ok-body_length.body_length ≡ length (batch_head b) = write_head old new (batch_bytes b) (batch_head b) (columns_body b.columns) c.len-start.result c.len.result c.in_ok-body_length.body_length put in
    IfErr-weaker c.block_between.result _ _ (λ why past. long_refused (record_batch_error b) (batch_head b) why c.in_ok-body_length.ensures.form past.0 (omega (arith, long, past.1))) c.block_between.ensures.err
