-- A writer of a stream writes the stream of its record batches, which round-trips. What files share with streams is here too.
use Rattle.std.specs.Prelude.{◌≡◌, ℕ, ⊤, Bool, true, false, List, [], ◌∷◌, ◌++◌, length, Option, None, Result, Ok, Err, refl}
use Rattle.std.specs.Io.KnownBytes.{Appends}
use Rattle.std.proofs.Common.{sym, ap, ◌∙◌, append_assoc, append-nil, subst}
use Rattle.std.proofs.KnownBytes.{Appends-trans}
use Rattle.ipc_flatbuf.specs.declared.error.IpcWriteError as write_errors
use Rattle.ipc_flatbuf.specs.MessageBytes.{end_of_stream}
use Rattle.ipc_schema.specs.Schemas.{SchemaModel}
use Rattle.ipc_schema.specs.SchemaBytes.{schema_message}
use Rattle.ipc.specs.DictionaryEntries.{DictionaryEntries}
use Rattle.ipc.specs.FileDictionaries.{DictionaryBatchTree}
use Rattle.ipc.specs.Streams.{RecordBatchTree, column_types, stream_in}
use Rattle.ipc.specs.EncodedStreams.{emitted_after, stream_dictionary_batches, encoded_batch, encoded_batches, encoded_messages, encoded_stream, batch_error, batches_error, schema_error, decoded_batches, decoded_stream, BatchRoundTrips, BatchesRoundTrip, AreSameBatches}
use Rattle.ipc.specs.EncodedStreamLaws.{stream_round_trips, same_batches}
use Rattle.ipc.specs.EncodedBatches.{emitted_after_all, after_more, from_more, again_more, bytes_push, none_written, fields_formed}
use Rattle.ipc_io.specs.declared.error.WriteError as errors
use Rattle.ipc_io.specs.declared.error.WriteError.TheVariants.{Ipc, Io, Failed}
use Rattle.ipc_io.specs.Writes.{WritesPrefix}
use Rattle.ipc_io.specs.Writers.{WriterTree, StartsWriting, IsIo, SchemaRoundTrips, WritesBytes, FinishesWriting}

-- ---- bytes, of a stream, which has all values of pending dictionaries, or of a file, which has deltas

module _ (puts : DictionaryEntries → RecordBatchTree → List DictionaryBatchTree) where
  -- the bytes without their end: the header, then the record batches
  abbrev pub begun_bytes : List ℕ → List RecordBatchTree → List ℕ
  begun_bytes front bs = front ++ encoded_batches puts [] bs

  none_begun : (front : List ℕ) → front ≡ begun_bytes front []
  none_begun front = sym (ap (λ (x : List ℕ). front ++ x) (none_written puts []) ∙ append-nil front)

  begun_push : (front : List ℕ) (bs : List RecordBatchTree) (b : RecordBatchTree) → begun_bytes front (bs ++ b ∷ []) ≡ begun_bytes front bs ++ encoded_batch puts (emitted_after_all [] bs) b
  begun_push front bs b = sym (bytes_push puts front (begun_bytes front bs) (begun_bytes front bs ++ encoded_batch puts (emitted_after_all [] bs) b) [] (emitted_after_all [] bs) bs (bs ++ b ∷ []) b refl refl refl refl)

  -- a record batch before others, after those before it
  parts_split : (emitted : DictionaryEntries) (bs more : List RecordBatchTree) (b : RecordBatchTree) → encoded_batches puts emitted (bs ++ b ∷ more) ≡ encoded_batches puts emitted bs ++ (encoded_batch puts (emitted_after_all emitted bs) b ++ encoded_batches puts (emitted_after (emitted_after_all emitted bs) b) more)
  unfolding encoded_batches
  parts_split emitted [] more b = refl
  parts_split emitted (c ∷ bs) more b =
      let next : DictionaryEntries = emitted_after emitted c in
      let rest : List ℕ = encoded_batch puts (emitted_after_all next bs) b ++ encoded_batches puts (emitted_after (emitted_after_all next bs) b) more in
      ap (λ (x : List ℕ). encoded_batch puts emitted c ++ x) (parts_split next bs more b) ∙ sym (append_assoc (encoded_batch puts emitted c) (encoded_batches puts next bs) rest)

begun_end : (s : SchemaModel) (bs : List RecordBatchTree) → begun_bytes stream_dictionary_batches (schema_message s) bs ++ end_of_stream ≡ encoded_stream s bs
unfolding encoded_messages
begun_end s bs = append_assoc (schema_message s) (encoded_batches stream_dictionary_batches [] bs) end_of_stream

never : (b : Bool) → b ≡ true → b ≡ false → ⊥
never true is other = cc
never false is other = cc

module _ {W : Type 0} (contents : W → Option (List ℕ)) where
  -- ---- what streams and files share

  -- a prefix was written where a call failed
  pub went_out : (reason : Option write_errors.IpcWriteError) (bytes : List ℕ) (emitted : DictionaryEntries) (old new : WriterTree W) (result : Result ⊤ errors.WriteError) → IsIo result → WritesBytes contents reason bytes emitted old new result → WritesPrefix (contents old.inner) (contents new.inner) bytes
  went_out reason bytes emitted old new (Ok done) is put = absurd is
  went_out reason bytes emitted old new (Err (Ipc why)) is put = absurd is
  went_out reason bytes emitted old new (Err (Io e)) is put = put.2
  went_out reason bytes emitted old new (Err Failed) is put = absurd is

  module _ (puts : DictionaryEntries → RecordBatchTree → List DictionaryBatchTree) where
    -- a writer has appended this header and these record batches
    pub record HasPut (start : Option (List ℕ)) (front : List ℕ) (s : SchemaModel) (bs : List RecordBatchTree) (w : WriterTree W) : Type 0 where
      pub bytes : Appends start (contents w.inner) (begun_bytes puts front bs)
      pub emitted : w.emitted ≡ emitted_after_all [] bs
      pub schema : w.schema ≡ s

    -- `new` writes the header
    pub has_begun : (reason : Option write_errors.IpcWriteError) (front : List ℕ) (s : SchemaModel) (writer : W) (w : WriterTree W) → StartsWriting contents reason front s writer (Ok w) → HasPut (contents writer) front s [] w
    has_begun reason front s writer w begun = record {
      bytes = subst (Appends (contents writer) (contents w.inner)) (none_begun puts front) begun.1;
      emitted = ap (λ (x : WriterTree W). x.emitted) begun.2;
      schema = ap (λ (x : WriterTree W). x.schema) begun.2;
    }

    -- each `write` appends its record batch
    pub has_more : (start : Option (List ℕ)) (front : List ℕ) (s : SchemaModel) (bs : List RecordBatchTree) (b : RecordBatchTree) (reason : Option write_errors.IpcWriteError) (old new : WriterTree W) → HasPut start front s bs old
        → WritesBytes contents reason (encoded_batch puts old.emitted b) (emitted_after old.emitted b) old new (Ok tt) → HasPut start front s (bs ++ b ∷ []) new
    has_more start front s bs b reason old new has put =
        let part : List ℕ = encoded_batch puts (emitted_after_all [] bs) b in
        let more : Appends (contents old.inner) (contents new.inner) part = subst (λ (x : DictionaryEntries). Appends (contents old.inner) (contents new.inner) (encoded_batch puts x b)) has.emitted put.2 in
        record {
          bytes = subst (Appends start (contents new.inner)) (sym (begun_push puts front bs b)) (Appends-trans start (contents old.inner) (contents new.inner) (begun_bytes puts front bs) part has.bytes more);
          emitted = after_more emitted_after [] old.emitted new.emitted bs (bs ++ b ∷ []) b refl has.emitted (ap (λ (x : WriterTree W). x.emitted) put.3);
          schema = ap (λ (x : WriterTree W). x.schema) put.3 ∙ has.schema;
        }

    -- what was written, and what is written after it
    pub has_ended : (start : Option (List ℕ)) (front : List ℕ) (s : SchemaModel) (bs : List RecordBatchTree) (w : WriterTree W) (new : Option (List ℕ)) (tail : List ℕ) → HasPut start front s bs w → Appends (contents w.inner) new tail → Appends start new (begun_bytes puts front bs ++ tail)
    has_ended start front s bs w new tail has more = Appends-trans start (contents w.inner) new (begun_bytes puts front bs) tail has.bytes more

    -- A prefix of one more record batch makes a prefix of all that was to be written.
    pub has_beginning : (start : Option (List ℕ)) (front : List ℕ) (s : SchemaModel) (bs more : List RecordBatchTree) (b : RecordBatchTree) (w : WriterTree W) (new : Option (List ℕ)) (tail : List ℕ) → HasPut start front s bs w → WritesPrefix (contents w.inner) new (encoded_batch puts w.emitted b)
        → WritesPrefix start new (begun_bytes puts front (bs ++ b ∷ more) ++ tail)
    has_beginning start front s bs more b w new tail has put =
        let all : List ℕ = encoded_batches puts [] bs in
        let others : List ℕ = encoded_batches puts (emitted_after (emitted_after_all [] bs) b) more in
        let part : encoded_batch puts (emitted_after_all [] bs) b ≡ put.0 ++ put.1 = ap (λ (x : DictionaryEntries). encoded_batch puts x b) (sym has.emitted) ∙ put.2 in
        let parts : encoded_batches puts [] (bs ++ b ∷ more) ≡ all ++ ((put.0 ++ put.1) ++ others) = parts_split puts [] bs more b ∙ ap (λ (x : List ℕ). all ++ (x ++ others)) part in
        let regrouped : (front ++ (all ++ ((put.0 ++ put.1) ++ others))) ++ tail ≡ (begun_bytes puts front bs ++ put.0) ++ (put.1 ++ (others ++ tail)) = simp append_assoc in
        (begun_bytes puts front bs ++ put.0, put.1 ++ (others ++ tail), ap (λ (x : List ℕ). (front ++ x) ++ tail) parts ∙ regrouped, Appends-trans start (contents w.inner) new (begun_bytes puts front bs) put.0 has.bytes put.3)

  -- ---- streams

  -- this record batch was written, after its pending dictionaries
  abbrev pub WritesBatch : RecordBatchTree → WriterTree W → WriterTree W → Type 0
  WritesBatch b old new = WritesBytes contents (batch_error (column_types old.schema) old.emitted b) (encoded_batch stream_dictionary_batches old.emitted b) (emitted_after old.emitted b) old new (Ok tt) × BatchRoundTrips (stream_dictionary_batches old.emitted b) b

  -- these record batches were written in order
  abbrev pub WritesBatches : List RecordBatchTree → WriterTree W → WriterTree W → Type 0
  WritesBatches [] old new = new ≡ old
  WritesBatches (b ∷ bs) old new = (next : WriterTree W) × WritesBatch b old next × WritesBatches bs next new

  -- a stream of this schema and these record batches was started, written and finished, without an error
  pub record IsFinished (s : SchemaModel) (bs : List RecordBatchTree) (start end : W) : Type 0 where
    pub first : WriterTree W
    pub last : WriterTree W
    pub begun : StartsWriting contents (schema_error s) (schema_message s) s start (Ok first)
    pub again : SchemaRoundTrips s
    pub written : WritesBatches bs first last
    pub ended : FinishesWriting contents None end_of_stream last (Ok end)

  -- these record batches were written, and have no error
  record HasTaken (start : Option (List ℕ)) (s : SchemaModel) (bs : List RecordBatchTree) (w : WriterTree W) : Type 0 where
    put : HasPut stream_dictionary_batches start (schema_message s) s bs w
    again : BatchesRoundTrip stream_dictionary_batches [] bs
    form : batches_error (column_types s) [] bs ≡ None

  takes_none : (s : SchemaModel) (writer : W) (w : WriterTree W) → StartsWriting contents (schema_error s) (schema_message s) s writer (Ok w) → HasTaken (contents writer) s [] w
  takes_none s writer w begun = record { put = has_begun stream_dictionary_batches (schema_error s) (schema_message s) s writer w begun; again = tt; form = refl }

  takes_more : (start : Option (List ℕ)) (s : SchemaModel) (bs : List RecordBatchTree) (b : RecordBatchTree) (old new : WriterTree W) → HasTaken start s bs old → WritesBatch b old new → HasTaken start s (bs ++ b ∷ []) new
  takes_more start s bs b old new has one =
      let put = has.put in
      let form : batch_error (column_types s) old.emitted b ≡ None = subst (λ (x : SchemaModel). batch_error (column_types x) old.emitted b ≡ None) put.schema one.0.1 in
      record {
        put = has_more stream_dictionary_batches start (schema_message s) s bs b (batch_error (column_types old.schema) old.emitted b) old new put one.0;
        again = again_more stream_dictionary_batches [] old.emitted bs (bs ++ b ∷ []) b refl put.emitted has.again one.1;
        form = from_more emitted_after (batch_error (column_types s)) [] old.emitted bs (bs ++ b ∷ []) b refl put.emitted has.form form;
      }

  takes_all : (start : Option (List ℕ)) (s : SchemaModel) (done bs : List RecordBatchTree) (old new : WriterTree W) → HasTaken start s done old → WritesBatches bs old new → HasTaken start s (done ++ bs) new
  takes_all start s done [] old new has wrote = subst (λ (x : List RecordBatchTree). HasTaken start s x new) (sym (append-nil done)) (subst (HasTaken start s done) (sym wrote) has)
  takes_all start s done (b ∷ bs) old new has wrote =
      subst (λ (x : List RecordBatchTree). HasTaken start s x new) (append_assoc done (b ∷ []) bs) (takes_all start s (done ++ b ∷ []) bs wrote.0 new (takes_more start s done b old wrote.0 has wrote.1) wrote.2)

  -- from `new` on
  has_stream : (s : SchemaModel) (bs : List RecordBatchTree) (start : W) (first last : WriterTree W) → StartsWriting contents (schema_error s) (schema_message s) s start (Ok first) → WritesBatches bs first last → HasTaken (contents start) s bs last
  has_stream s bs start first last begun wrote = takes_all (contents start) s [] bs first last (takes_none s start first begun) wrote

  has_finished : (s : SchemaModel) (bs : List RecordBatchTree) (start end : W) (run : IsFinished s bs start end) → HasTaken (contents start) s bs run.last
  has_finished s bs start end run = has_stream s bs start run.first run.last run.begun run.written

  -- all together is the stream
  pub stream_put : (s : SchemaModel) (bs : List RecordBatchTree) (start end : W) → IsFinished s bs start end → Appends (contents start) (contents end) (encoded_stream s bs)
  stream_put s bs start end run =
      subst (Appends (contents start) (contents end)) (begun_end s bs) (has_ended stream_dictionary_batches (contents start) (schema_message s) s bs run.last (contents end) end_of_stream (has_finished s bs start end run).put run.ended.2)

  -- the stream round-trips: the schema, and the same record batches
  abbrev pub StreamRoundTrips : Type 0
  StreamRoundTrips = (s : SchemaModel) (bs : List RecordBatchTree) (start end : W) → IsFinished s bs start end → (rest : List ℕ) → stream_in (encoded_stream s bs ++ rest) ≡ Ok (decoded_stream s bs (length (encoded_stream s bs)))

  pub stream_read : StreamRoundTrips
  stream_read s bs start end run rest = let has = has_finished s bs start end run in stream_round_trips s bs rest run.again (fields_formed s run.begun.0) has.form has.again

  pub stream_same : (s : SchemaModel) (bs : List RecordBatchTree) (start end : W) → IsFinished s bs start end → AreSameBatches bs (decoded_batches bs)
  stream_same s bs start end run = same_batches s bs (fields_formed s run.begun.0) (has_finished s bs start end run).again

  -- a writer that fails in one more record batch has written a prefix of the stream, whatever batches were to follow
  abbrev pub FailedStreamIsPrefix : Type 0
  FailedStreamIsPrefix = (s : SchemaModel) (bs more : List RecordBatchTree) (b : RecordBatchTree) (start : W) (first last new : WriterTree W) (reason : Option write_errors.IpcWriteError) (emitted : DictionaryEntries) (result : Result ⊤ errors.WriteError) → IsIo result → StartsWriting contents (schema_error s) (schema_message s) s start (Ok first)
      → WritesBatches bs first last → WritesBytes contents reason (encoded_batch stream_dictionary_batches last.emitted b) emitted last new result → WritesPrefix (contents start) (contents new.inner) (encoded_stream s (bs ++ b ∷ more))

  pub stream_begins : FailedStreamIsPrefix
  stream_begins s bs more b start first last new reason emitted result is begun wrote put =
      let out : WritesPrefix (contents last.inner) (contents new.inner) (encoded_batch stream_dictionary_batches last.emitted b) = went_out reason (encoded_batch stream_dictionary_batches last.emitted b) emitted last new result is put in
      subst (WritesPrefix (contents start) (contents new.inner)) (begun_end s (bs ++ b ∷ more))
      (has_beginning stream_dictionary_batches (contents start) (schema_message s) s bs more b last (contents new.inner) end_of_stream (has_stream s bs start first last begun wrote).put out)

  -- after a failure nothing is written
  abbrev pub FailedWriterWritesNothing : Type 0
  FailedWriterWritesNothing = (reason : Option write_errors.IpcWriteError) (bytes : List ℕ) (emitted : DictionaryEntries) (old new : WriterTree W) (result : Result ⊤ errors.WriteError) → WritesBytes contents reason bytes emitted old new result → old.failed ≡ true → (result ≡ Err Failed) × (new ≡ old)

  pub failed_stays : FailedWriterWritesNothing
  failed_stays reason bytes emitted old new (Ok done) put is = absurd (never old.failed is put.0)
  failed_stays reason bytes emitted old new (Err (Ipc why)) put is = absurd (never old.failed is put.0)
  failed_stays reason bytes emitted old new (Err (Io e)) put is = absurd (never old.failed is put.0)
  failed_stays reason bytes emitted old new (Err Failed) put is = (refl, put.1)
