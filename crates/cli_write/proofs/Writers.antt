-- Writers after each call.
use Rattle.std.proofs.Common.{◌≡◌, ◌⊎◌, inl, inr, ℕ, ◌+◌, ◌^◌, ◌≤◌, Bool, true, false, List, [], ◌∷◌, ◌++◌, length, Option, Some, None, Ok, Err, refl, sym, ap, ◌∙◌, subst, arith, length-append}
use Rattle.std.specs.Prelude.{nat_le}
use Rattle.std.proofs.lemmas.Bool.{leb-true}
use Rattle.ipc_flatbuf.specs.declared.error.IpcWriteError.{IpcWriteError}
use Rattle.ipc_flatbuf.specs.declared.error.IpcWriteError.TheVariants.{Size}
use Rattle.ipc_flatbuf.specs.MessageBytes.{end_of_stream}
use Rattle.ipc_schema.specs.Schemas.{SchemaModel}
use Rattle.ipc_schema.specs.SchemaBytes.{schema_message}
use Rattle.ipc_schema.specs.FooterBytes.{file_end, file_head}
use Rattle.ipc_schema.specs.FooterLaws.{FooterRoundTrips}
use Rattle.ipc.specs.DictionaryEntries.{DictionaryEntries}
use Rattle.ipc.specs.Streams.{RecordBatchTree, column_types}
use Rattle.ipc.specs.EncodedStreams.{BatchRoundTrips, IsErrorOrMemory, batch_error, encoded_batches, batches_error, or_error, encoded_messages, encoded_batch, schema_error, emitted_after, size_error_if, encoded_stream, stream_error, stream_dictionary_batches}
use Rattle.ipc.specs.EncodedFiles.{FileState, file_batch_error, file_batches_error, encoded_file, file_error, file_state, file_state_after, file_state_start, footer_error, no_blocks, file_dictionary_batches, written_footer}
use Rattle.ipc.specs.EncodedBatches.{after_more, batches_long, bytes_push, first_accepts, first_refused, from_more, from_refused, later_refused, none_written, emitted_after_all}
use Rattle.ipc_io.specs.FileWriterLaws.{HasStarted, IsFinishedFile, WritesFileBatch, WritesFileBatches, end_is, file_put, file_read, file_same}
use Rattle.ipc_io.specs.FileWriters.{FileWriterTree, RecordsState, RecordsBlocks, trailer_bytes, trailer_error, file_state_so_far, footer_of, header_bytes, batch_blocks, placed_error, as_stream}
use Rattle.ipc_io.specs.WriterLaws.{IsFinished, WritesBatches, WritesBatch, has_begun, has_more, stream_put, stream_read, stream_same}
use Rattle.ipc_io.specs.Writers.{StartsWriting, FinishesWriting, SchemaRoundTrips, WritesBytes, WriterTree}
use Rattle.cli_read.specs.RowBuffers.{table_of_batches}
use Rattle.cli_rows.specs.Errors.{write_error}
use Rattle.cli_args.specs.declared.format.Format.TheVariants as forms
use Rattle.cli_write.specs.Copies.{IsWriteRefusal}
use Rattle.cli_write.specs.Writers.{FailsFinish, FailsBatch, FailsSchema, HasWritten, IsFileWriter, WritesTableBatches, IsStreamWriter}
use Rattle.cli_write.specs.declared.writer.BatchWriter.TheVariants.{File, Stream}
use Rattle.ipc_io.specs.declared.error.WriteError.{WriteError}
use Rattle.ipc_io.specs.declared.error.WriteError.TheVariants.{Ipc as NoForm_, Io, Failed}
use Rattle.cli_args.specs.declared.format.Format.{Format}

module _ {W : Type 0} (contents : W → Option (List ℕ)) where
  writes-more : (bs : List RecordBatchTree) (b : RecordBatchTree) (first old new : WriterTree W) → WritesBatches contents bs first old → WritesBatch contents b old new → WritesBatches contents (bs ++ b ∷ []) first new
  writes-more [] b first old new h one = (new, subst (λ (w : WriterTree W). WritesBatch contents b w new) h one, refl)
  writes-more (c ∷ bs) b first old new h one = (h.0, h.1, writes-more bs b h.0 old new h.2 one)

  pub stream-begun : (s : SchemaModel) (start : W) (w : WriterTree W) → StartsWriting contents (schema_error s) (schema_message s) s start (Ok w) → SchemaRoundTrips s → IsStreamWriter contents start s [] w
  stream-begun s start w begun again = record {
    first = w;
    begun = begun;
    again = again;
    written = refl;
    put = has_begun contents stream_dictionary_batches (schema_error s) (schema_message s) s start w begun;
    form = refl;
  }

  pub stream-more : (start : W) (s : SchemaModel) (bs : List RecordBatchTree) (b : RecordBatchTree) (old new : WriterTree W) → IsStreamWriter contents start s bs old → WritesBatch contents b old new → IsStreamWriter contents start s (bs ++ b ∷ []) new
  stream-more start s bs b old new h one =
      let form : batch_error (column_types s) old.emitted b ≡ None = subst (λ (x : SchemaModel). batch_error (column_types x) old.emitted b ≡ None) h.put.schema one.0.1 in
      record {
        first = h.first;
        begun = h.begun;
        again = h.again;
        written = writes-more bs b h.first old new h.written one;
        put = has_more contents stream_dictionary_batches (contents start) (schema_message s) s bs b (batch_error (column_types old.schema) old.emitted b) old new h.put one.0;
        form = from_more emitted_after (batch_error (column_types s)) [] old.emitted bs (bs ++ b ∷ []) b refl h.put.emitted h.form form;
      }

  pub stream-refused : (start : W) (s : SchemaModel) (bs more : List RecordBatchTree) (b : RecordBatchTree) (w : WriterTree W) (why : IpcWriteError) → IsStreamWriter contents start s bs w → IsErrorOrMemory (batch_error (column_types w.schema) w.emitted b) why → IsWriteRefusal forms.Stream (table_of_batches s (bs ++ b ∷ more)) why
  stream-refused start s bs more b w why h refused =
      let here : IsErrorOrMemory (batch_error (column_types s) w.emitted b) why = subst (λ (x : SchemaModel). IsErrorOrMemory (batch_error (column_types x) w.emitted b) why) h.put.schema refused in
      inl (later_refused (schema_error s) (batches_error (column_types s) [] (bs ++ b ∷ more)) why h.begun.0
      (from_refused emitted_after (batch_error (column_types s)) [] w.emitted (bs ++ b ∷ more) bs more b why refl h.put.emitted h.form here))

  pub stream-ended : (start end : W) (s : SchemaModel) (bs : List RecordBatchTree) (w : WriterTree W) → IsStreamWriter contents start s bs w → FinishesWriting contents None end_of_stream w (Ok end) → WritesTableBatches forms.Stream s bs (contents start) (contents end)
  stream-ended start end s bs w h ended =
      let run : IsFinished contents s bs start end = record { first = h.first; last = w; begun = h.begun; again = h.again; written = h.written; ended = ended } in
      (encoded_stream s bs, (stream_read contents s bs start end run, stream_same contents s bs start end run), stream_put contents s bs start end run)

  pub stream-unended : (s : SchemaModel) (bs : List RecordBatchTree) (why : IpcWriteError) → IsErrorOrMemory None why → IsErrorOrMemory (stream_error s bs) why
  stream-unended s bs why (inl memory) = inl memory
  stream-unended s bs why (inr e) = absurd cc

  blocks-more : (bs : List RecordBatchTree) (b : RecordBatchTree) (first old new : FileWriterTree W) → WritesFileBatches contents bs first old → WritesFileBatch contents b old new → WritesFileBatches contents (bs ++ b ∷ []) first new
  blocks-more [] b first old new h one = (new, subst (λ (w : FileWriterTree W). WritesFileBatch contents b w new) h one, refl)
  blocks-more (c ∷ bs) b first old new h one = (h.0, h.1, blocks-more bs b h.0 old new h.2 one)

  pub file-begun : (s : SchemaModel) (start : W) (w : FileWriterTree W) → StartsWriting contents (schema_error s) (header_bytes s) s start (Ok w.stream) → w.blocks ≡ no_blocks → w.position ≡ length (header_bytes s) → w.known ≡ (file_state_start s).state → IsFileWriter contents start s [] w
  file-begun s start w begun blocks position known =
      let put = has_begun contents file_dictionary_batches (schema_error s) (header_bytes s) s start w.stream begun in
      record {
        run = record { first = w; begun = begun; blocks = blocks; position = position; known = known; written = refl };
        put = put;
        position = omega (arith, position, ap length (none_written file_dictionary_batches []));
        known = λ i. file_state (put.emitted i) (known i);
        form = refl;
      }

  pub file-more : (start : W) (s : SchemaModel) (bs : List RecordBatchTree) (b : RecordBatchTree) (old new : FileWriterTree W) → IsFileWriter contents start s bs old → WritesFileBatch contents b old new → IsFileWriter contents start s (bs ++ b ∷ []) new
  file-more start s bs b old new h wrote =
      let put = wrote.0 in
      let emitted : DictionaryEntries = old.stream.emitted in
      let last : emitted ≡ emitted_after_all [] bs = h.put.emitted in
      let more : List RecordBatchTree = bs ++ b ∷ [] in
      let reason : Option IpcWriteError = placed_error old.position (column_types old.stream.schema) (file_state_so_far old) b in
      let taken : file_batch_error (column_types old.stream.schema) (file_state_so_far old) b ≡ None = first_accepts (file_batch_error (column_types old.stream.schema) (file_state_so_far old) b) (size_error_if (nat_le (2 ^ 63) (old.position + length (encoded_batch file_dictionary_batches emitted b)))) put.1 in
      let form : file_batch_error (column_types s) (file_state_so_far old) b ≡ None = subst (λ (x : SchemaModel). file_batch_error (column_types x) (file_state_so_far old) b ≡ None) h.put.schema taken in
      let bytes : encoded_batches file_dictionary_batches [] more ≡ encoded_batches file_dictionary_batches [] bs ++ encoded_batch file_dictionary_batches emitted b = sym (bytes_push file_dictionary_batches [] (encoded_batches file_dictionary_batches [] bs) (encoded_batches file_dictionary_batches [] bs ++ encoded_batch file_dictionary_batches emitted b) [] emitted bs more b refl last refl refl) in
      let long : length (encoded_batches file_dictionary_batches [] more) ≡ length (encoded_batches file_dictionary_batches [] bs) + length (encoded_batch file_dictionary_batches emitted b) = ap length bytes ∙ length-append (encoded_batches file_dictionary_batches [] bs) (encoded_batch file_dictionary_batches emitted b) in
      let now : new.stream.emitted ≡ emitted_after emitted b = ap (λ (x : WriterTree W). x.emitted) put.3 in
      let known : file_state_so_far new ≡ file_state_after (file_state_so_far old) b = λ i. file_state (now i) (wrote.2 i) in
      record {
        run = record { first = h.run.first; begun = h.run.begun; blocks = h.run.blocks; position = h.run.position; known = h.run.known; written = blocks-more bs b h.run.first old new h.run.written wrote };
        put = has_more contents file_dictionary_batches (contents start) (header_bytes s) s bs b reason old.stream new.stream h.put put;
        position = omega (arith, wrote.1.1, h.position, long);
        known = after_more file_state_after (file_state_start s) (file_state_so_far old) (file_state_so_far new) bs more b refl h.known known;
        form = from_more file_state_after (file_batch_error (column_types s)) (file_state_start s) (file_state_so_far old) bs more b refl h.known h.form form;
      }

  either-refused : (r q : Option IpcWriteError) (why : IpcWriteError) → IsErrorOrMemory (or_error r q) why → IsErrorOrMemory r why ⊎ (q ≡ Some why)
  either-refused r q why (inl memory) = inl (inl memory)
  either-refused None q why (inr e) = inr e
  either-refused (Some x) q why (inr e) = inl (inr e)

  size-is : (m n : ℕ) (why : IpcWriteError) → size_error_if (nat_le m n) ≡ Some why → (why ≡ Size) × (m ≤ n)
  size-is m n why e = by (nat_le m n) refl e
    where
      by : (b : Bool) → nat_le m n ≡ b → size_error_if b ≡ Some why → (why ≡ Size) × (m ≤ n)
      by true is e = (cc, leb-true m n is)
      by false is e = absurd cc

  parts-long : (emitted : DictionaryEntries) (bs more : List RecordBatchTree) (b : RecordBatchTree) → length (encoded_batches file_dictionary_batches emitted bs) + length (encoded_batch file_dictionary_batches (emitted_after_all emitted bs) b) ≤ length (encoded_batches file_dictionary_batches emitted (bs ++ b ∷ more))
  parts-long emitted [] more b = omega (arith, ap length (none_written file_dictionary_batches emitted), batches_long file_dictionary_batches emitted b more)
  parts-long emitted (c ∷ bs) more b = omega (arith, batches_long file_dictionary_batches emitted c bs, batches_long file_dictionary_batches emitted c (bs ++ b ∷ more), parts-long (emitted_after emitted c) bs more b)

  file-long : (s : SchemaModel) (bs : List RecordBatchTree) → length (header_bytes s) + length (encoded_batches file_dictionary_batches [] bs) ≤ length (encoded_file s bs)
  unfolding encoded_file encoded_messages
  file-long s bs =
      omega (
        arith,
        length-append file_head (schema_message s),
        length-append file_head ((schema_message s ++ (encoded_batches file_dictionary_batches [] bs ++ end_of_stream)) ++ file_end (written_footer s bs)),
        length-append (schema_message s ++ (encoded_batches file_dictionary_batches [] bs ++ end_of_stream)) (file_end (written_footer s bs)),
        length-append (schema_message s) (encoded_batches file_dictionary_batches [] bs ++ end_of_stream),
        length-append (encoded_batches file_dictionary_batches [] bs) end_of_stream,
      )

  pub file-refused : (start : W) (s : SchemaModel) (bs more : List RecordBatchTree) (b : RecordBatchTree) (w : FileWriterTree W) (why : IpcWriteError) → IsFileWriter contents start s bs w → IsErrorOrMemory (placed_error w.position (column_types w.stream.schema) (file_state_so_far w) b) why
      → IsWriteRefusal forms.File (table_of_batches s (bs ++ b ∷ more)) why
  file-refused start s bs more b w why h refused =
      by (either-refused (file_batch_error (column_types w.stream.schema) (file_state_so_far w) b) (size_error_if (nat_le (2 ^ 63) (w.position + length (encoded_batch file_dictionary_batches w.stream.emitted b)))) why refused)
    where
      all : List RecordBatchTree
      all = bs ++ b ∷ more

      by : IsErrorOrMemory (file_batch_error (column_types w.stream.schema) (file_state_so_far w) b) why ⊎ (size_error_if (nat_le (2 ^ 63) (w.position + length (encoded_batch file_dictionary_batches w.stream.emitted b))) ≡ Some why) → IsWriteRefusal forms.File (table_of_batches s (bs ++ b ∷ more)) why
      by (inl r) =
          let here : IsErrorOrMemory (file_batch_error (column_types s) (file_state_so_far w) b) why = subst (λ (x : SchemaModel). IsErrorOrMemory (file_batch_error (column_types x) (file_state_so_far w) b) why) h.put.schema r in
          inl (later_refused (schema_error s) (or_error (file_batches_error (column_types s) (file_state_start s) all) (footer_error (written_footer s all))) why h.run.begun.0
          (first_refused (file_batches_error (column_types s) (file_state_start s) all) (footer_error (written_footer s all)) why
          (from_refused file_state_after (file_batch_error (column_types s)) (file_state_start s) (file_state_so_far w) all bs more b why refl h.known h.form here)))
      by (inr e) =
          let is = size-is (2 ^ 63) (w.position + length (encoded_batch file_dictionary_batches w.stream.emitted b)) why e in
          let last : length (encoded_batch file_dictionary_batches w.stream.emitted b) ≡ length (encoded_batch file_dictionary_batches (emitted_after_all [] bs) b) = ap (λ (x : DictionaryEntries). length (encoded_batch file_dictionary_batches x b)) h.put.emitted in
          inr (is.0, long-enough (2 ^ 63) is.1 last)
        where
          long-enough : (m : ℕ) → m ≤ w.position + length (encoded_batch file_dictionary_batches w.stream.emitted b) → length (encoded_batch file_dictionary_batches w.stream.emitted b) ≡ length (encoded_batch file_dictionary_batches (emitted_after_all [] bs) b) → m ≤ length (encoded_file s all)
          long-enough m le last = omega (arith, le, last, h.position, parts-long [] bs more b, file-long s all)

  pub file-ended : (start end : W) (s : SchemaModel) (bs : List RecordBatchTree) (w : FileWriterTree W) → IsFileWriter contents start s bs w → FinishesWriting contents (trailer_error (footer_of w)) (trailer_bytes (footer_of w)) w.stream (Ok end) → FooterRoundTrips (footer_of w)
      → WritesTableBatches forms.File s bs (contents start) (contents end)
  file-ended start end s bs w h ended again =
      let run : IsFinishedFile contents s bs start end = record { last = w; run = h.run; ended = ended; again = again } in
      (encoded_file s bs, (file_read contents s bs start end run, file_same contents s bs start end run), file_put contents s bs start end run)

  pub file-unended : (start : W) (s : SchemaModel) (bs : List RecordBatchTree) (w : FileWriterTree W) (why : IpcWriteError) → IsFileWriter contents start s bs w → IsErrorOrMemory (trailer_error (footer_of w)) why → IsErrorOrMemory (file_error s bs) why
  file-unended start s bs w why h refused =
      later_refused (schema_error s) (or_error (file_batches_error (column_types s) (file_state_start s) bs) (footer_error (written_footer s bs))) why h.run.begun.0
      (later_refused (file_batches_error (column_types s) (file_state_start s) bs) (footer_error (written_footer s bs)) why h.form (subst (λ (r : Option IpcWriteError). IsErrorOrMemory r why) (end_is contents s bs start w h.run) refused))

  pub put-stream : (b : RecordBatchTree) (old new : WriterTree W) → WritesBatch contents b old new → (form : Format) (start : W) (s : SchemaModel) (went : List RecordBatchTree) → HasWritten contents form start s went (Stream old) → HasWritten contents form start s (went ++ b ∷ []) (Stream new)
  put-stream b old new one forms.Stream start s went p = stream-more start s went b old new p one
  put-stream b old new one forms.File start s went p = absurd p

  pub fails-stream : (b : RecordBatchTree) (old new : WriterTree W) (e : WriteError) → WritesBytes contents (batch_error (column_types old.schema) old.emitted b) (encoded_batch stream_dictionary_batches old.emitted b) (emitted_after old.emitted b) old new (Err e) → (form : Format) (start : W) (s : SchemaModel) (went : List RecordBatchTree)
      → HasWritten contents form start s went (Stream old) → FailsBatch (write_error e) form s went b
  fails-stream b old new (NoForm_ why) put forms.Stream start s went p = λ more. stream-refused start s went more b old why p put.1
  fails-stream b old new (NoForm_ why) put forms.File start s went p = absurd p
  fails-stream b old new (Io e) put form start s went p = tt
  fails-stream b old new Failed put form start s went p = tt

  pub end-stream : (old : WriterTree W) (end : W) → FinishesWriting contents None end_of_stream old (Ok end) → (form : Format) (start : W) (s : SchemaModel) (went : List RecordBatchTree) → HasWritten contents form start s went (Stream old) → WritesTableBatches form s went (contents start) (contents end)
  end-stream old end ended forms.Stream start s went p = stream-ended start end s went old p ended
  end-stream old end ended forms.File start s went p = absurd p

  pub stop-stream : (old : WriterTree W) (e : WriteError) → FinishesWriting contents None end_of_stream old (Err e) → (form : Format) (start : W) (s : SchemaModel) (went : List RecordBatchTree) → HasWritten contents form start s went (Stream old) → FailsFinish (write_error e) form s went
  stop-stream old (NoForm_ why) ended forms.Stream start s went p = stream-unended s went why ended.1
  stop-stream old (NoForm_ why) ended forms.File start s went p = absurd p
  stop-stream old (Io e) ended form start s went p = tt
  stop-stream old Failed ended form start s went p = tt

  pub put-file : (b : RecordBatchTree) (old new : FileWriterTree W) → WritesFileBatch contents b old new → (form : Format) (start : W) (s : SchemaModel) (went : List RecordBatchTree) → HasWritten contents form start s went (File old) → HasWritten contents form start s (went ++ b ∷ []) (File new)
  put-file b old new one forms.File start s went p = file-more start s went b old new p one
  put-file b old new one forms.Stream start s went p = absurd p

  pub fails-file : (b : RecordBatchTree) (old : FileWriterTree W) (new : WriterTree W) (e : WriteError)
      → WritesBytes contents (placed_error old.position (column_types old.stream.schema) (file_state_so_far old) b) (encoded_batch file_dictionary_batches old.stream.emitted b) (emitted_after old.stream.emitted b) old.stream new (Err e) → (form : Format) (start : W) (s : SchemaModel) (went : List RecordBatchTree)
      → HasWritten contents form start s went (File old) → FailsBatch (write_error e) form s went b
  fails-file b old new (NoForm_ why) put forms.File start s went p = λ more. file-refused start s went more b old why p put.1
  fails-file b old new (NoForm_ why) put forms.Stream start s went p = absurd p
  fails-file b old new (Io e) put form start s went p = tt
  fails-file b old new Failed put form start s went p = tt

  pub end-file : (old : FileWriterTree W) (end : W) → FinishesWriting contents (trailer_error (footer_of old)) (trailer_bytes (footer_of old)) old.stream (Ok end) → FooterRoundTrips (footer_of old) → (form : Format) (start : W) (s : SchemaModel) (went : List RecordBatchTree)
      → HasWritten contents form start s went (File old) → WritesTableBatches form s went (contents start) (contents end)
  end-file old end ended again forms.File start s went p = file-ended start end s went old p ended again
  end-file old end ended again forms.Stream start s went p = absurd p

  pub stop-file : (old : FileWriterTree W) (e : WriteError) → FinishesWriting contents (trailer_error (footer_of old)) (trailer_bytes (footer_of old)) old.stream (Err e) → (form : Format) (start : W) (s : SchemaModel) (went : List RecordBatchTree)
      → HasWritten contents form start s went (File old) → FailsFinish (write_error e) form s went
  stop-file old (NoForm_ why) ended forms.File start s went p = file-unended start s went old why p ended.1
  stop-file old (NoForm_ why) ended forms.Stream start s went p = absurd p
  stop-file old (Io e) ended form start s went p = tt
  stop-file old Failed ended form start s went p = tt

  pub schema-fails : (reason : Option IpcWriteError) (bytes : List ℕ) (s : SchemaModel) (device : W) (e : WriteError) → StartsWriting contents reason bytes s device (Err e) → FailsSchema (write_error e) reason
  schema-fails reason bytes s device (NoForm_ why) h = h
  schema-fails reason bytes s device (Io e) h = tt
  schema-fails reason bytes s device Failed h = tt

  pub schema-fails-file : (reason : Option IpcWriteError) (bytes : List ℕ) (s : SchemaModel) (device : W) (e : WriteError) → StartsWriting contents reason bytes s device (as_stream (Err e)) → FailsSchema (write_error e) reason
  schema-fails-file reason bytes s device e h = schema-fails reason bytes s device e h
