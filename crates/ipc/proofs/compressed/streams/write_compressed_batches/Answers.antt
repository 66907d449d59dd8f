use Rattle.std.proofs.Common.{◌+◌, map, take, drop, [], refl, sym}
use Rattle.std.proofs.lemmas.List.{append-nil}
use Rattle.std.proofs.lemmas.Result.{err_from_is_err_and}
use Rattle.nest_memory.specs.TypeOf.{field_of}
use Rattle.nest_memory.specs.TypeTree.{field_type}
use Rattle.ipc.specs.EntriesOf.{by_id}
use Rattle.ipc.specs.Streams.{record_batch_of}
use Rattle.ipc.specs.EncodedStreams.{stream_dictionary_batches, emitted_after}
use Rattle.ipc.specs.EncodedBatches.{taken, split, after_more, from_refused, from_more, again_more}
use Rattle.ipc.specs.CompressedStreams.{compressed_batch_error}
use Rattle.ipc.specs.CompressedStreamLaws.{compressed_push}
use Rattle.ipc.proofs.compressed.streams.write_compressed_batches.Goals as goal

pub loop-batch-init : goal.loop-batch-init
loop-batch-init c = record { written = ([], refl, sym (append-nil c.args.out.now.items)); last = refl; plain = tt; form = refl }

pub returns-in_err-append_compressed_batch-clause-err : goal.returns-in_err-append_compressed_batch-clause-err
returns-in_err-append_compressed_batch-clause-err c =
    let x = c.batch-item.result in
    let i = c.loop-batch.batch-index in
    let batches = c.args.batches.now in
    let types = map field_type (map field_of c.args.fields.now) in
    let p = err_from_is_err_and c.from_residual.result c.from_residual.ensures.1 in
    rw (p.1, p.2) (from_refused emitted_after (compressed_batch_error types) (by_id c.args.emitted.now.entries) (by_id c.loop-batch.emitted.entries) (map record_batch_of batches) (map record_batch_of (take i batches)) (map record_batch_of (drop (i + 1) batches)) (record_batch_of x) _
    (split record_batch_of batches i x c.loop-batch-test.true c.batch-item.is) c.loop-batch.invariant.last c.loop-batch.invariant.form c.in_err-append_compressed_batch.ensures.err)

pub loop-batch-preserved : goal.loop-batch-preserved
loop-batch-preserved c =
    let x = c.batch-item.result in
    let i = c.loop-batch.batch-index in
    let batches = c.args.batches.now in
    let types = map field_type (map field_of c.args.fields.now) in
    let first = by_id c.args.emitted.now.entries in
    let emitted = by_id c.loop-batch.emitted.entries in
    let before = map record_batch_of (take i batches) in
    let after = map record_batch_of (take (i + 1) batches) in
    let kept = c.loop-batch.invariant in
    let more = taken record_batch_of batches i x c.loop-batch-test.true c.batch-item.is in
    let done = c.in_ok-append_compressed_batch.ensures in
    record {
      written = compressed_push first emitted before after (record_batch_of x) c.args.out.now.items c.loop-batch.out.items c.append_compressed_batch.new.out.items more kept.last kept.written done.bytes;
      last = after_more emitted_after first emitted (by_id c.append_compressed_batch.new.emitted.entries) before after (record_batch_of x) more kept.last done.emitted;
      plain = again_more stream_dictionary_batches first emitted before after (record_batch_of x) more kept.last kept.plain done.plain;
      form = from_more emitted_after (compressed_batch_error types) first emitted before after (record_batch_of x) more kept.last kept.form done.form;
    }
