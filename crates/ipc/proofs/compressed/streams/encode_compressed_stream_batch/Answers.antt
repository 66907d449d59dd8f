use Rattle.std.proofs.Common.{◌≡◌, ◌++◌, List, ℕ, sym, ap, subst, ◌∙◌}
use Rattle.std.specs.Int.{w64}
use Rattle.std.specs.Int.RustNames.{FitsSigned}
use Rattle.std.specs.List.{AllByRecursion}
use Rattle.std.proofs.lemmas.Result.{err_from_is_err_and}
use Rattle.ipc.specs.DictionaryEntries.{DictionaryEntries}
use Rattle.ipc.specs.EntriesOf.{by_id}
use Rattle.ipc.specs.Streams.{RecordBatchTree, record_batch_of, types_of_fields}
use Rattle.ipc.specs.EncodedStreams.{pending_by, stream_dictionary_batches, encoded_batch, batch_error, each_error}
use Rattle.ipc.specs.EncodedBatches.{later_refused, both_accepted}
use Rattle.ipc.specs.CompressedMessages.{BatchMessage, ArePlainMessages, compression_error}
use Rattle.ipc.specs.CompressedStreams.{messages_of}
use Rattle.ipc.specs.CompressedStreamLaws.{IsPlainPart, is_plain_part, is_compressed_batch}
use Rattle.ipc.proofs.compressed.streams.encode_compressed_stream_batch.Goals as goal

pub compress_messages-requires : goal.compress_messages-requires
compress_messages-requires c =
    let emitted : DictionaryEntries = by_id c.args.emitted.now.entries in
    let b : RecordBatchTree = record_batch_of c.args.batch.now in
    let ids : AllByRecursion (λ e. FitsSigned w64 e.0) (pending_by emitted b) = rw (c.deref.ensures.value, c.in_ok-pending.ensures.pending) at c.known_ids.ensures in
    let part : IsPlainPart emitted b = is_plain_part (types_of_fields c.args.fields.now) emitted b ids c.in_ok-pending.ensures.form in
    let whole : c.deref-2.result.now ≡ encoded_batch stream_dictionary_batches emitted b = c.deref-2.ensures.value ∙ c.in_ok-pending.ensures.bytes ∙ ap (λ (x : List ℕ). x ++ encoded_batch stream_dictionary_batches emitted b) c.new-plain.ensures.items in
    let ms : List BatchMessage = messages_of (stream_dictionary_batches emitted b) b in
    (ms, subst (ArePlainMessages ms) (sym whole) part.plain)

pub returns-in_err-compress_messages-clause-err : goal.returns-in_err-compress_messages-clause-err
returns-in_err-compress_messages-clause-err c =
    let emitted : DictionaryEntries = by_id c.args.emitted.now.entries in
    let b : RecordBatchTree = record_batch_of c.args.batch.now in
    let types = types_of_fields c.args.fields.now in
    let ids : AllByRecursion (λ e. FitsSigned w64 e.0) (pending_by emitted b) = rw (c.deref.ensures.value, c.in_ok-pending.ensures.pending) at c.known_ids.ensures in
    let part : IsPlainPart emitted b = is_plain_part types emitted b ids c.in_ok-pending.ensures.form in
    let whole : c.deref-2.result.now ≡ encoded_batch stream_dictionary_batches emitted b = c.deref-2.ensures.value ∙ c.in_ok-pending.ensures.bytes ∙ ap (λ (x : List ℕ). x ++ encoded_batch stream_dictionary_batches emitted b) c.new-plain.ensures.items in
    let ms : List BatchMessage = messages_of (stream_dictionary_batches emitted b) b in
    let plain : ArePlainMessages ms c.deref-2.result.now = subst (ArePlainMessages ms) (sym whole) part.plain in
    let p = err_from_is_err_and c.from_residual-in_err-compress_messages.result c.from_residual-in_err-compress_messages.ensures.1 in
    rw (p.1, p.2) (later_refused (batch_error types emitted b) (each_error compression_error ms) _ c.in_ok-pending.ensures.form (c.in_err-compress_messages.ensures.err ms plain))

pub returns-clause-bytes : goal.returns-clause-bytes
returns-clause-bytes c =
    let emitted : DictionaryEntries = by_id c.args.emitted.now.entries in
    let b : RecordBatchTree = record_batch_of c.args.batch.now in
    let ids : AllByRecursion (λ e. FitsSigned w64 e.0) (pending_by emitted b) = rw (c.deref.ensures.value, c.in_ok-pending.ensures.pending) at c.known_ids.ensures in
    let part : IsPlainPart emitted b = is_plain_part (types_of_fields c.args.fields.now) emitted b ids c.in_ok-pending.ensures.form in
    let whole : c.deref-2.result.now ≡ encoded_batch stream_dictionary_batches emitted b = c.deref-2.ensures.value ∙ c.in_ok-pending.ensures.bytes ∙ ap (λ (x : List ℕ). x ++ encoded_batch stream_dictionary_batches emitted b) c.new-plain.ensures.items in
    let ms : List BatchMessage = messages_of (stream_dictionary_batches emitted b) b in
    let plain : ArePlainMessages ms c.deref-2.result.now = subst (ArePlainMessages ms) (sym whole) part.plain in
    let appended = c.in_ok-compress_messages.ensures.ok ms plain in
    (appended.0, is_compressed_batch emitted b appended.0 part c.in_ok-pending.ensures.again.fits appended.1, appended.2)

pub returns-clause-form : goal.returns-clause-form
returns-clause-form c =
    let emitted : DictionaryEntries = by_id c.args.emitted.now.entries in
    let b : RecordBatchTree = record_batch_of c.args.batch.now in
    let types = types_of_fields c.args.fields.now in
    let ids : AllByRecursion (λ e. FitsSigned w64 e.0) (pending_by emitted b) = rw (c.deref.ensures.value, c.in_ok-pending.ensures.pending) at c.known_ids.ensures in
    let part : IsPlainPart emitted b = is_plain_part types emitted b ids c.in_ok-pending.ensures.form in
    let whole : c.deref-2.result.now ≡ encoded_batch stream_dictionary_batches emitted b = c.deref-2.ensures.value ∙ c.in_ok-pending.ensures.bytes ∙ ap (λ (x : List ℕ). x ++ encoded_batch stream_dictionary_batches emitted b) c.new-plain.ensures.items in
    let ms : List BatchMessage = messages_of (stream_dictionary_batches emitted b) b in
    let plain : ArePlainMessages ms c.deref-2.result.now = subst (ArePlainMessages ms) (sym whole) part.plain in
    both_accepted (batch_error types emitted b) (each_error compression_error ms) c.in_ok-pending.ensures.form (c.in_ok-compress_messages.ensures.form ms plain)
