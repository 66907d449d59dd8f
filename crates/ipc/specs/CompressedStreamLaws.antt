-- A stream with compressed buffers is read as the stream without compression.
use Rattle.std.specs.Prelude.{◌≡◌, ℕ, ◌-◌, true, false, List, [], ◌∷◌, ◌++◌, map, length, Option, Some, None, Ok, refl}
use Rattle.std.proofs.Common.{sym, ap, subst, ◌∙◌, append_assoc, arith}
use Rattle.std.specs.Int.{w64}
use Rattle.std.specs.Int.RustNames.{FitsSigned}
use Rattle.std.specs.List.{AllByRecursion}
use Rattle.std.proofs.lemmas.List.{append-nil, length-append}
use Rattle.nest_memory.specs.TypeTree.{TypeTree}
use Rattle.nest_model.specs.Array.{IsArray}
use Rattle.ipc_flatbuf.specs.declared.error.IpcWriteError.{IpcWriteError}
use Rattle.ipc_flatbuf.specs.MessageBytes.{end_of_stream}
use Rattle.ipc_schema.specs.WriteChecks.{check_fields}
use Rattle.ipc_schema.specs.Dictionaries.{DictionaryTypesModel}
use Rattle.ipc_schema.specs.OutermostIds.{ValueTypes}
use Rattle.ipc_schema.specs.ProjectionLaws.{all_written}
use Rattle.ipc_schema.specs.ProjectedSchemas.{stream_projected_schema_at}
use Rattle.ipc_schema.specs.Projections.{all}
use Rattle.ipc_schema.specs.Schemas.{SchemaModel}
use Rattle.ipc_schema.specs.SchemaBytes.{schema_message}
use Rattle.ipc.specs.DictionaryEntries.{DictionaryEntries}
use Rattle.ipc.specs.KnownDictionaryLaws.{columns_needed_of}
use Rattle.ipc.specs.SchemaIds.{IsNamed, AreNamed, seen_of_fields}
use Rattle.ipc.specs.FileDictionaries.{DictionaryBatchTree, whole}
use Rattle.ipc.specs.Streams.{RecordBatchTree, StateTree, column_types, next_in, batches_in, stream_in, projected_stream_in}
use Rattle.ipc.specs.StreamLaws.{one_by_one}
use Rattle.ipc.specs.EncodedStreams.{dictionary_error, record_batch_error, pending_by, stream_dictionary_batches, emitted_after, encoded_batch, spec_are_columns, or_error, each_error, batch_error, batches_error, decoded_batches_from, decoded_record_batch, decoded_stream, known_after, BatchRoundTrips, BatchesRoundTrip}
use Rattle.ipc.specs.EncodedStreamLaws.{IsBehind, behind_batch, part_named, part_next, still_behind, has_columns, end_read, written_start, starts_behind}
use Rattle.ipc.specs.EncodedBatches.{first_accepts, others_accept, both_accepted, emitted_after_all}
use Rattle.ipc.specs.CompressedMessages.{ArePlainMessages, AreCompressedMessages, compression_error}
use Rattle.ipc.specs.CompressedStreams.{messages_of, ReadsColumns, IsCompressedBatch, AreCompressedBatches, AppendsCompressedBatch, AppendsCompressedBatches, IsCompressedStream, compressed_batch_error, compressed_batches_error}
use Rattle.ipc.specs.ReadsAsPlainLaws.{BatchIsBack, DictionaryIsBack, batch_is_back, each_is_back, plain_messages, part_alike}

-- ---- a record batch

-- a record batch that has no error without compression
pub record IsPlainPart (emitted : DictionaryEntries) (b : RecordBatchTree) : Type 0 where
  pub dictionaries : AllByRecursion DictionaryIsBack (stream_dictionary_batches emitted b)
  pub batch : BatchIsBack b
  pub plain : ArePlainMessages (messages_of (stream_dictionary_batches emitted b) b) (encoded_batch stream_dictionary_batches emitted b)

ids_of_whole : (es : DictionaryEntries) → AllByRecursion (λ e. FitsSigned w64 e.0) es → AllByRecursion (λ p. FitsSigned w64 p.1.0) (map whole es)
ids_of_whole [] ids = tt
ids_of_whole (e ∷ es) ids = (ids.0, ids_of_whole es ids.1)

pub is_plain_part : (types : List TypeTree) (emitted : DictionaryEntries) (b : RecordBatchTree) → AllByRecursion (λ e. FitsSigned w64 e.0) (pending_by emitted b) → batch_error types emitted b ≡ None → IsPlainPart emitted b
unfolding encoded_batch
is_plain_part types emitted b ids none =
    let ps : List DictionaryBatchTree = stream_dictionary_batches emitted b in
    let are : spec_are_columns types b.rows b.columns ≡ true = has_columns types emitted b none in
    let both : or_error (each_error dictionary_error ps) (record_batch_error b) ≡ None = rw are at none in
    let each : AllByRecursion DictionaryIsBack ps = each_is_back ps (ids_of_whole (pending_by emitted b) ids) (first_accepts (each_error dictionary_error ps) (record_batch_error b) both) in
    let last : BatchIsBack b = batch_is_back b (others_accept (each_error dictionary_error ps) (record_batch_error b) both) in
    record { dictionaries = each; batch = last; plain = plain_messages ps b each last }

no_deltas : (es : DictionaryEntries) → AllByRecursion (λ p. p.0 ≡ false) (map whole es)
no_deltas [] = tt
no_deltas (e ∷ es) = (refl, no_deltas es)

pub is_compressed_batch : (emitted : DictionaryEntries) (b : RecordBatchTree) (bytes : List ℕ) → IsPlainPart emitted b → AllByRecursion IsArray b.columns → AreCompressedMessages (messages_of (stream_dictionary_batches emitted b) b) bytes → IsCompressedBatch emitted b bytes
unfolding encoded_batch
is_compressed_batch emitted b bytes part arrays are = record {
  messages = are;
  reads_as_plain = λ s rest reads. part_alike (stream_dictionary_batches emitted b) b bytes rest s are part.dictionaries (no_deltas (pending_by emitted b)) part.batch arrays reads;
}

-- ---- record batches in order

pub push : (emitted : DictionaryEntries) (bs : List RecordBatchTree) (b : RecordBatchTree) (bytes more : List ℕ) → AreCompressedBatches emitted bs bytes → IsCompressedBatch (emitted_after_all emitted bs) b more → AreCompressedBatches emitted (bs ++ b ∷ []) (bytes ++ more)
push emitted [] b bytes more are is = (more, [], is, refl, ap (λ (x : List ℕ). x ++ more) are ∙ sym (append-nil more))
push emitted (c ∷ bs) b bytes more are is =
    (are.0, are.1 ++ more, are.2, push (emitted_after emitted c) bs b are.1 more are.3 is, ap (λ (x : List ℕ). x ++ more) are.4 ∙ append_assoc are.0 are.1 more)

pub compressed_push : (emitted now : DictionaryEntries) (bs more : List RecordBatchTree) (b : RecordBatchTree) (old middle new : List ℕ) → more ≡ bs ++ b ∷ [] → now ≡ emitted_after_all emitted bs → AppendsCompressedBatches emitted bs old middle → AppendsCompressedBatch now b middle new → AppendsCompressedBatches emitted more old new
compressed_push emitted now bs more b old middle new pushed last so_far one =
    let is : IsCompressedBatch (emitted_after_all emitted bs) b one.0 = subst (λ (x : DictionaryEntries). IsCompressedBatch x b one.0) last one.1 in
    (so_far.0 ++ one.0, subst (λ (x : List RecordBatchTree). AreCompressedBatches emitted x (so_far.0 ++ one.0)) (sym pushed) (push emitted bs b so_far.0 one.0 so_far.1 is), one.2 ∙ ap (λ (x : List ℕ). x ++ one.0) so_far.2 ∙ append_assoc old so_far.0 one.0)

-- without compression there is no error either
pub plain_accepts : (types : List TypeTree) (emitted : DictionaryEntries) (bs : List RecordBatchTree) → compressed_batches_error types emitted bs ≡ None → batches_error types emitted bs ≡ None
plain_accepts types emitted [] none = refl
plain_accepts types emitted (b ∷ bs) none =
    let compressed : Option IpcWriteError = compressed_batch_error types emitted b in
    let others : Option IpcWriteError = compressed_batches_error types (emitted_after emitted b) bs in
    let one : compressed ≡ None = first_accepts compressed others none in
    let plain : batch_error types emitted b ≡ None = first_accepts (batch_error types emitted b) (each_error compression_error (messages_of (stream_dictionary_batches emitted b) b)) one in
    both_accepted (batch_error types emitted b) (batches_error types (emitted_after emitted b) bs) plain (plain_accepts types (emitted_after emitted b) bs (others_accept compressed others none))

-- a reader of the schema reads the columns of each batch
named_whole : (named : ValueTypes) (es : DictionaryEntries) → AllByRecursion (IsNamed named) es → AllByRecursion (λ p. IsNamed named p.1) (map whole es)
named_whole named [] are = tt
named_whole named (e ∷ es) are = (are.0, named_whole named es are.1)

reads_columns : (s : StateTree) (emitted : DictionaryEntries) (b : RecordBatchTree) → BatchRoundTrips (stream_dictionary_batches emitted b) b → IsBehind s emitted → spec_are_columns (column_types s.picked.schema) b.rows b.columns ≡ true → ReadsColumns s.picked (stream_dictionary_batches emitted b) b
reads_columns s emitted b ok behind columns =
    let named : AreNamed s.picked.schema.fields b.columns = part_named s emitted b ok behind columns in
    let each : AllByRecursion (IsNamed (seen_of_fields s.picked.schema.fields).named) (pending_by emitted b) = columns_needed_of (IsNamed (seen_of_fields s.picked.schema.fields).named) emitted 0 b.columns named.each in
    let here : AllByRecursion (IsNamed s.picked.seen.named) (pending_by emitted b) = subst (λ (seen : DictionaryTypesModel). AllByRecursion (IsNamed seen.named) (pending_by emitted b)) (sym behind.whole.seen) each in
    record { steps = behind.whole.steps; arrays = behind.whole.arrays; columns = columns; named = named_whole s.picked.seen.named (pending_by emitted b) here }

batches_again : (s : StateTree) (emitted : DictionaryEntries) (bs : List RecordBatchTree) (bytes rest : List ℕ) → AreCompressedBatches emitted bs bytes → BatchesRoundTrip stream_dictionary_batches emitted bs → IsBehind s emitted → batches_error (column_types s.picked.schema) emitted bs ≡ None
    → batches_in s (bytes ++ (end_of_stream ++ rest)) ≡ Ok (decoded_batches_from s.known emitted bs, rest)
batches_again s emitted [] bytes rest are ok behind none = rw (are, one_by_one s (end_of_stream ++ rest), end_read s rest) refl
batches_again s emitted (b ∷ bs) bytes rest are ok behind none =
    let others : List ℕ = are.1 ++ (end_of_stream ++ rest) in
    let split : bytes ++ (end_of_stream ++ rest) ≡ are.0 ++ others = ap (λ (x : List ℕ). x ++ (end_of_stream ++ rest)) are.4 ∙ append_assoc are.0 are.1 (end_of_stream ++ rest) in
    let columns = has_columns (column_types s.picked.schema) emitted b (first_accepts (batch_error (column_types s.picked.schema) emitted b) (batches_error (column_types s.picked.schema) (emitted_after emitted b) bs) none) in
    let more = others_accept (batch_error (column_types s.picked.schema) emitted b) (batches_error (column_types s.picked.schema) (emitted_after emitted b) bs) none in
    let next : StateTree = behind_batch s emitted b in
    let first : next_in s (are.0 ++ others) ≡ Ok ((Some (decoded_record_batch (known_after s.known emitted b) b), next), others) = are.2.reads_as_plain s others (reads_columns s emitted b ok.0 behind columns) ∙ part_next s emitted b others ok.0 behind columns in
    let back = batches_again next (emitted_after emitted b) bs are.1 rest are.3 ok.1 (still_behind s emitted b ok.0 behind) more in
    rw (split, one_by_one s (are.0 ++ others), first, back) refl

-- ---- streams

pub compressed_stream_round_trips : (s : SchemaModel) (bs : List RecordBatchTree) (bytes rest : List ℕ) → IsCompressedStream s bs bytes → ((after : List ℕ) → stream_projected_schema_at all (schema_message s ++ after) ≡ Ok (all_written s, after)) → check_fields s.fields ≡ Ok tt → compressed_batches_error (column_types s) [] bs ≡ None → BatchesRoundTrip stream_dictionary_batches [] bs
    → stream_in (bytes ++ rest) ≡ Ok (decoded_stream s bs (length bytes))
unfolding projected_stream_in
compressed_stream_round_trips s bs bytes rest are keyed form none ok =
    let behind : List ℕ = are.0 ++ (end_of_stream ++ rest) in
    let split : bytes ++ rest ≡ schema_message s ++ behind = ap (λ (x : List ℕ). x ++ rest) are.2 ∙ append_assoc (schema_message s) (are.0 ++ end_of_stream) rest ∙ ap (λ (x : List ℕ). schema_message s ++ x) (append_assoc are.0 end_of_stream rest) in
    let size : length (bytes ++ rest) - length rest ≡ length bytes = omega (arith, length-append bytes rest) in
    let again : length (schema_message s ++ behind) - length rest ≡ length bytes = ap (λ (x : List ℕ). length x - length rest) (sym split) ∙ size in
    rw (split, keyed behind, batches_again (written_start s) [] bs are.0 rest are.1 ok (starts_behind s form) (plain_accepts (column_types s) [] bs none), again) refl
