use Rattle.std.proofs.Common.{◌≡◌, ◌++◌, List, ℕ, sym, ap, subst, ◌∙◌}
use Rattle.std.specs.Int.{w64}
use Rattle.std.specs.Int.RustNames.{FitsSigned}
use Rattle.std.specs.List.{AllByRecursion}
use Rattle.ipc.specs.DictionaryEntries.{DictionaryEntries}
use Rattle.ipc.specs.EntriesOf.{by_id}
use Rattle.ipc.specs.Streams.{RecordBatchTree, record_batch_of, types_of_fields}
use Rattle.ipc.specs.EncodedStreams.{pending_by, encoded_batch}
use Rattle.ipc.specs.EncodedFiles.{FileState, file_batch_error, file_dictionary_batches, file_state_of}
use Rattle.ipc.specs.EncodedBatches.{later_refused, both_accepted}
use Rattle.ipc.specs.CompressedMessages.{BatchMessage, ArePlainMessages}
use Rattle.ipc.specs.CompressedStreams.{messages_of}
use Rattle.ipc.specs.CompressedFiles.{compressed_messages_error}
use Rattle.ipc.specs.CompressedFileLaws.{IsPlainFilePart, is_plain_file_part, file_part_plain, ids_of_batches}
use Rattle.ipc.proofs.compressed.files.encode_compressed_file_batch.Goals as goal

pub compress_parts-requires : goal.compress_parts-requires
compress_parts-requires c =
    let emitted : DictionaryEntries = by_id c.args.emitted.now.entries in
    let b : RecordBatchTree = record_batch_of c.args.batch.now in
    let f : FileState = file_state_of c.args.emitted.now.entries c.args.known.now in
    let types = types_of_fields c.args.fields.now in
    let ids : AllByRecursion (λ e. FitsSigned w64 e.0) (pending_by emitted b) = rw (c.deref.ensures.value, c.in_ok-encoded.ensures.pending) at c.known_ids.ensures in
    let each : AllByRecursion (λ p. FitsSigned w64 p.1.0) (file_dictionary_batches emitted b) = ids_of_batches emitted (pending_by emitted b) ids in
    let part : IsPlainFilePart emitted b = is_plain_file_part types f b each c.in_ok-encoded.ensures.form in
    let whole : c.deref-2.result.now ≡ encoded_batch file_dictionary_batches emitted b = c.deref-2.ensures.value ∙ c.in_ok-encoded.ensures.bytes ∙ ap (λ (x : List ℕ). x ++ encoded_batch file_dictionary_batches emitted b) c.new-plain.ensures.items in
    let ms : List BatchMessage = messages_of (file_dictionary_batches emitted b) b in
    let plain : ArePlainMessages ms c.deref-2.result.now = subst (ArePlainMessages ms) (sym whole) (file_part_plain emitted b part) in
    (ms, plain)

pub returns-in-Ok-clause-bytes : goal.returns-in-Ok-clause-bytes
returns-in-Ok-clause-bytes c =
    let emitted : DictionaryEntries = by_id c.args.emitted.now.entries in
    let b : RecordBatchTree = record_batch_of c.args.batch.now in
    let f : FileState = file_state_of c.args.emitted.now.entries c.args.known.now in
    let types = types_of_fields c.args.fields.now in
    let ids : AllByRecursion (λ e. FitsSigned w64 e.0) (pending_by emitted b) = rw (c.deref.ensures.value, c.in_ok-encoded.ensures.pending) at c.known_ids.ensures in
    let each : AllByRecursion (λ p. FitsSigned w64 p.1.0) (file_dictionary_batches emitted b) = ids_of_batches emitted (pending_by emitted b) ids in
    let part : IsPlainFilePart emitted b = is_plain_file_part types f b each c.in_ok-encoded.ensures.form in
    let whole : c.deref-2.result.now ≡ encoded_batch file_dictionary_batches emitted b = c.deref-2.ensures.value ∙ c.in_ok-encoded.ensures.bytes ∙ ap (λ (x : List ℕ). x ++ encoded_batch file_dictionary_batches emitted b) c.new-plain.ensures.items in
    let ms : List BatchMessage = messages_of (file_dictionary_batches emitted b) b in
    let plain : ArePlainMessages ms c.deref-2.result.now = subst (ArePlainMessages ms) (sym whole) (file_part_plain emitted b part) in
    let appended = c.in-Ok.ensures.ok ms plain in
    (appended.0, record { messages = appended.1; ids = each }, appended.2)

pub returns-in-Ok-clause-form : goal.returns-in-Ok-clause-form
returns-in-Ok-clause-form c =
    let emitted : DictionaryEntries = by_id c.args.emitted.now.entries in
    let b : RecordBatchTree = record_batch_of c.args.batch.now in
    let f : FileState = file_state_of c.args.emitted.now.entries c.args.known.now in
    let types = types_of_fields c.args.fields.now in
    let ids : AllByRecursion (λ e. FitsSigned w64 e.0) (pending_by emitted b) = rw (c.deref.ensures.value, c.in_ok-encoded.ensures.pending) at c.known_ids.ensures in
    let each : AllByRecursion (λ p. FitsSigned w64 p.1.0) (file_dictionary_batches emitted b) = ids_of_batches emitted (pending_by emitted b) ids in
    let part : IsPlainFilePart emitted b = is_plain_file_part types f b each c.in_ok-encoded.ensures.form in
    let whole : c.deref-2.result.now ≡ encoded_batch file_dictionary_batches emitted b = c.deref-2.ensures.value ∙ c.in_ok-encoded.ensures.bytes ∙ ap (λ (x : List ℕ). x ++ encoded_batch file_dictionary_batches emitted b) c.new-plain.ensures.items in
    let ms : List BatchMessage = messages_of (file_dictionary_batches emitted b) b in
    let plain : ArePlainMessages ms c.deref-2.result.now = subst (ArePlainMessages ms) (sym whole) (file_part_plain emitted b part) in
    both_accepted (file_batch_error types f b) (compressed_messages_error ms) c.in_ok-encoded.ensures.form (c.in-Ok.ensures.form ms plain)

pub returns-clause-err : goal.returns-clause-err
returns-clause-err c =
    let emitted : DictionaryEntries = by_id c.args.emitted.now.entries in
    let b : RecordBatchTree = record_batch_of c.args.batch.now in
    let f : FileState = file_state_of c.args.emitted.now.entries c.args.known.now in
    let types = types_of_fields c.args.fields.now in
    let ids : AllByRecursion (λ e. FitsSigned w64 e.0) (pending_by emitted b) = rw (c.deref.ensures.value, c.in_ok-encoded.ensures.pending) at c.known_ids.ensures in
    let each : AllByRecursion (λ p. FitsSigned w64 p.1.0) (file_dictionary_batches emitted b) = ids_of_batches emitted (pending_by emitted b) ids in
    let part : IsPlainFilePart emitted b = is_plain_file_part types f b each c.in_ok-encoded.ensures.form in
    let whole : c.deref-2.result.now ≡ encoded_batch file_dictionary_batches emitted b = c.deref-2.ensures.value ∙ c.in_ok-encoded.ensures.bytes ∙ ap (λ (x : List ℕ). x ++ encoded_batch file_dictionary_batches emitted b) c.new-plain.ensures.items in
    let ms : List BatchMessage = messages_of (file_dictionary_batches emitted b) b in
    let plain : ArePlainMessages ms c.deref-2.result.now = subst (ArePlainMessages ms) (sym whole) (file_part_plain emitted b part) in
    later_refused (file_batch_error types f b) (compressed_messages_error ms) _ c.in_ok-encoded.ensures.form (c.in-Err.ensures.err ms plain)
