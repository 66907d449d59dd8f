use Rattle.std.proofs.Common.{◌≡◌, ◌+◌, length, map, take, drop, refl, ap, ◌∙◌}
use Rattle.std.proofs.lemmas.Result.{err_from_is_err_and}
use Rattle.nest_memory.specs.TypeOf.{field_of}
use Rattle.nest_memory.specs.TypeTree.{field_type}
use Rattle.ipc.specs.EntriesOf.{by_id}
use Rattle.ipc.specs.Streams.{record_batch_of, state_of}
use Rattle.ipc.specs.EncodedFiles.{FileState, file_dictionary_batches, file_blocks_of, file_state, file_state_after}
use Rattle.ipc.specs.EncodedBatches.{taken, split, emitted_after_all, file_state_emitted, after_more, from_refused, from_more, again_more}
use Rattle.ipc.specs.CompressedFiles.{compressed_file_batch_error}
use Rattle.ipc.specs.CompressedFileLaws.{no_file_batches, file_batches_push}
use Rattle.ipc.proofs.compressed.files.write_compressed_blocks.Goals as goal

pub loop-batch-init : goal.loop-batch-init
loop-batch-init c = record {
  written = no_file_batches (length c.args.out.now.items) (by_id c.args.emitted.now.entries) c.args.out.now.items c.args.out.now.items (file_blocks_of c.new-blocks.result) refl c.new-blocks.ensures;
  last = refl;
  plain = tt;
  form = refl;
}

pub returns-in_err-write_compressed_block-clause-err : goal.returns-in_err-write_compressed_block-clause-err
returns-in_err-write_compressed_block-clause-err c =
    let x = c.batch-item.result in
    let i = c.loop-batch.batch-index in
    let batches = c.args.batches.now in
    let types = map field_type (map field_of c.args.fields.now) in
    let p = err_from_is_err_and c.from_residual.result c.from_residual.ensures.1 in
    rw (p.1, p.2) (from_refused file_state_after (compressed_file_batch_error types) (file_state (by_id c.args.emitted.now.entries) (state_of c.args.known.now)) (file_state (by_id c.loop-batch.emitted.entries) (state_of c.loop-batch.known)) (map record_batch_of batches) (map record_batch_of (take i batches)) (map record_batch_of (drop (i + 1) batches)) (record_batch_of x) _
    (split record_batch_of batches i x c.loop-batch-test.true c.batch-item.is) c.loop-batch.invariant.last c.loop-batch.invariant.form c.in_err-write_compressed_block.ensures.err)

pub loop-batch-preserved : goal.loop-batch-preserved
loop-batch-preserved c =
    let x = c.batch-item.result in
    let i = c.loop-batch.batch-index in
    let batches = c.args.batches.now in
    let types = map field_type (map field_of c.args.fields.now) in
    let first = by_id c.args.emitted.now.entries in
    let emitted = by_id c.loop-batch.emitted.entries in
    let before = map record_batch_of (take i batches) in
    let after = map record_batch_of (take (i + 1) batches) in
    let old = c.args.out.now.items in
    let kept = c.loop-batch.invariant in
    let more = taken record_batch_of batches i x c.loop-batch-test.true c.batch-item.is in
    let start : FileState = file_state first (state_of c.args.known.now) in
    let now : FileState = file_state emitted (state_of c.loop-batch.known) in
    let written_last : emitted ≡ emitted_after_all first before = ap (λ (f : FileState). f.emitted) kept.last ∙ file_state_emitted start before in
    let done = c.in_ok-write_compressed_block.ensures in
    record {
      written = file_batches_push first emitted before after (record_batch_of x) old c.loop-batch.out.items c.write_compressed_block.new.out.items (file_blocks_of c.loop-batch.blocks) (file_blocks_of c.write_compressed_block.new.blocks) more written_last kept.written done.bytes;
      last = after_more file_state_after start now (file_state (by_id c.write_compressed_block.new.emitted.entries) (state_of c.write_compressed_block.new.known)) before after (record_batch_of x) more kept.last done.file_state;
      plain = again_more file_dictionary_batches first emitted before after (record_batch_of x) more written_last kept.plain done.plain;
      form = from_more file_state_after (compressed_file_batch_error types) start now before after (record_batch_of x) more kept.last kept.form done.form;
    }
