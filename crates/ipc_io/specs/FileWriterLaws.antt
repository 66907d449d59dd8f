-- A writer of a file writes the file of its record batches, which round-trips.
use Rattle.std.specs.Prelude.{◌≡◌, ℕ, ◌+◌, ◌^◌, nat_le, ⊤, true, List, [], ◌∷◌, ◌++◌, length, Option, Some, None, Result, Ok, Err, refl}
use Rattle.std.specs.Io.KnownBytes.{Appends}
use Rattle.std.proofs.Common.{sym, ap, ◌∙◌, append_assoc, append-nil, subst, arith}
use Rattle.std.proofs.lemmas.List.{length-append}
use Rattle.ipc_flatbuf.specs.declared.error.IpcWriteError as write_errors
use Rattle.ipc_schema.specs.Projections.{all}
use Rattle.ipc_schema.specs.Schemas.{SchemaModel}
use Rattle.ipc_schema.specs.SchemaBytes.{schema_message}
use Rattle.ipc_schema.specs.Footers.{FooterModel}
use Rattle.ipc_schema.specs.FooterBytes.{file_head}
use Rattle.ipc_schema.specs.FooterLaws.{FooterRoundTrips, projected_footer_of_all}
use Rattle.ipc_schema.specs.ProjectedFooters.{projected_footer_in}
use Rattle.ipc.specs.DictionaryEntries.{DictionaryEntries}
use Rattle.ipc.specs.Streams.{RecordBatchTree, StateTree, column_types}
use Rattle.ipc.specs.Files.{file_in}
use Rattle.ipc.specs.FileLaws as files
use Rattle.ipc.specs.FileLaws.{written_inside, file_round_trips}
use Rattle.ipc.specs.EncodedStreams.{emitted_after, encoded_batch, encoded_batches, encoded_messages, or_error, error_of, size_error_if, schema_error, decoded_batches, BatchRoundTrips, BatchesRoundTrip, AreSameBatches}
use Rattle.ipc.specs.EncodedFiles.{Blocks, FileState, file_state, file_state_after, file_state_start, file_state_end, file_dictionary_batches, no_blocks, blocks_from, written_blocks, written_footer, encoded_file, file_batch_error, file_batches_error, footer_error, file_error, decoded_file, HasNoDeltas}
use Rattle.ipc.specs.EncodedBatches.{emitted_after_all, after_more, from_more, again_more, first_accepts, fields_formed, bytes_push, blocks_more, no_blocks_yet, none_written}
use Rattle.ipc_io.specs.Writes.{WritesPrefix}
use Rattle.ipc_io.specs.declared.error.WriteError as errors
use Rattle.ipc_io.specs.declared.error.WriteError.TheVariants.{Ipc, Failed}
use Rattle.ipc_io.specs.Writers.{WriterTree, StartsWriting, IsIo, WritesBytes, FinishesWriting}
use Rattle.ipc_io.specs.WriterLaws.{HasPut, begun_bytes, has_begun, has_more, has_ended, has_beginning, went_out, failed_stays}
use Rattle.ipc_io.specs.FileWriters.{FileWriterTree, file_state_so_far, header_bytes, footer_over, footer_of, trailer_bytes, batch_blocks, placed_error, trailer_error, RecordsBlocks, RecordsState}

file_parts : (s : SchemaModel) (bs : List RecordBatchTree) → begun_bytes file_dictionary_batches (header_bytes s) bs ++ trailer_bytes (written_footer s bs) ≡ encoded_file s bs
unfolding encoded_file encoded_messages
file_parts s bs = simp append_assoc

-- bytes appended to none
alone : (old new : Option (List ℕ)) (bytes : List ℕ) → old ≡ Some [] → Appends old new bytes → new ≡ Some bytes
alone old new bytes none put = one new (subst (λ (x : Option (List ℕ)). Appends x new bytes) none put)
  where
    one : (new : Option (List ℕ)) → Appends (Some []) new bytes → new ≡ Some bytes
    one None h = absurd h
    one (Some xs) h = ap Some h

-- a record batch that can be written at a position can be written in a file
block_taken : (position : ℕ) (s : SchemaModel) (f : FileState) (b : RecordBatchTree) → placed_error position (column_types s) f b ≡ None → file_batch_error (column_types s) f b ≡ None
block_taken position s f b none = first_accepts (file_batch_error (column_types s) f b) (size_error_if (nat_le (2 ^ 63) (position + length (encoded_batch file_dictionary_batches f.emitted b)))) none

module _ {W : Type 0} (contents : W → Option (List ℕ)) where
  -- this record batch was written, after its dictionary batches
  abbrev pub WritesFileBatch : RecordBatchTree → FileWriterTree W → FileWriterTree W → Type 0
  WritesFileBatch b old new =
      WritesBytes contents (placed_error old.position (column_types old.stream.schema) (file_state_so_far old) b) (encoded_batch file_dictionary_batches old.stream.emitted b) (emitted_after old.stream.emitted b) old.stream new.stream (Ok tt)
      × RecordsBlocks (batch_blocks old.position old.stream.emitted b) (length (encoded_batch file_dictionary_batches old.stream.emitted b)) old new (Ok tt)
      × RecordsState (file_state_after (file_state_so_far old) b).state old new (Ok tt)
      × BatchRoundTrips (file_dictionary_batches old.stream.emitted b) b

  -- these record batches were written in order
  abbrev pub WritesFileBatches : List RecordBatchTree → FileWriterTree W → FileWriterTree W → Type 0
  WritesFileBatches [] old new = new ≡ old
  WritesFileBatches (b ∷ bs) old new = (next : FileWriterTree W) × WritesFileBatch b old next × WritesFileBatches bs next new

  -- a file of this schema was started and these record batches were written, without an error
  pub record HasStarted (s : SchemaModel) (bs : List RecordBatchTree) (start : W) (last : FileWriterTree W) : Type 0 where
    pub first : FileWriterTree W
    pub begun : StartsWriting contents (schema_error s) (header_bytes s) s start (Ok first.stream)
    pub blocks : first.blocks ≡ no_blocks
    pub position : first.position ≡ length (header_bytes s)
    pub known : first.known ≡ (file_state_start s).state
    pub written : WritesFileBatches bs first last

  -- and it was finished, without an error
  pub record IsFinishedFile (s : SchemaModel) (bs : List RecordBatchTree) (start end : W) : Type 0 where
    pub last : FileWriterTree W
    pub run : HasStarted s bs start last
    pub ended : FinishesWriting contents (trailer_error (footer_of last)) (trailer_bytes (footer_of last)) last.stream (Ok end)
    pub again : FooterRoundTrips (footer_of last)

  -- ---- calls with an error

  same_writer : (a b : FileWriterTree W) → a.stream ≡ b.stream → a.blocks ≡ b.blocks → a.position ≡ b.position → a.known ≡ b.known → a ≡ b
  same_writer a b stream blocks position known = λ i. record { stream = stream i; blocks = blocks i; position = position i; known = known i }

  -- a record batch with an error leaves the writer unchanged
  abbrev pub RefusalKeepsWriter : Type 0
  RefusalKeepsWriter = (reason : Option write_errors.IpcWriteError) (bytes : List ℕ) (emitted : DictionaryEntries) (blocks : Blocks) (long : ℕ) (state : StateTree) (old new : FileWriterTree W) (why : write_errors.IpcWriteError) → WritesBytes contents reason bytes emitted old.stream new.stream (Err (Ipc why)) → RecordsBlocks blocks long old new (Err (Ipc why))
      → RecordsState state old new (Err (Ipc why)) → new ≡ old

  pub refused_stays : RefusalKeepsWriter
  refused_stays reason bytes emitted blocks long state old new why put noted known = same_writer new old put.2 noted.0 noted.1 known

  -- after a failure nothing is written or recorded
  abbrev pub FailureKeepsWriter : Type 0
  FailureKeepsWriter = (reason : Option write_errors.IpcWriteError) (bytes : List ℕ) (emitted : DictionaryEntries) (blocks : Blocks) (long : ℕ) (state : StateTree) (old new : FileWriterTree W) (result : Result ⊤ errors.WriteError) → WritesBytes contents reason bytes emitted old.stream new.stream result → RecordsBlocks blocks long old new result
      → RecordsState state old new result → old.stream.failed ≡ true → (result ≡ Err Failed) × (new ≡ old)

  pub failed_file_stays : FailureKeepsWriter
  failed_file_stays reason bytes emitted blocks long state old new result put noted known is =
      let stays = failed_stays contents reason bytes emitted old.stream new.stream result put is in
      let kept : RecordsBlocks blocks long old new (Err Failed) = subst (RecordsBlocks blocks long old new) stays.0 noted in
      let knows : RecordsState state old new (Err Failed) = subst (RecordsState state old new) stays.0 known in
      (stays.0, same_writer new old stays.1 kept.0 kept.1 knows)

  -- ---- batch by batch

  -- these record batches were written; their blocks are those of the bytes written, and the state is that of a reader
  record Lies (start : Option (List ℕ)) (s : SchemaModel) (bs : List RecordBatchTree) (w : FileWriterTree W) : Type 0 where
    put : HasPut contents file_dictionary_batches start (header_bytes s) s bs w.stream
    blocks : w.blocks ≡ blocks_from (length (header_bytes s)) [] bs
    position : w.position ≡ length (header_bytes s) + length (encoded_batches file_dictionary_batches [] bs)
    known : file_state_so_far w ≡ file_state_end s bs
    again : BatchesRoundTrip file_dictionary_batches [] bs
    form : file_batches_error (column_types s) (file_state_start s) bs ≡ None

  lies_first : (s : SchemaModel) (bs : List RecordBatchTree) (start : W) (last : FileWriterTree W) (run : HasStarted s bs start last) → Lies (contents start) s [] run.first
  lies_first s bs start last run =
      let put = has_begun contents file_dictionary_batches (schema_error s) (header_bytes s) s start run.first.stream run.begun in
      record {
        put = put;
        blocks = run.blocks ∙ sym (no_blocks_yet (length (header_bytes s)) []);
        position = omega (arith, run.position, ap length (none_written file_dictionary_batches []));
        known = λ i. file_state (put.emitted i) (run.known i);
        again = tt;
        form = refl;
      }

  lies_more : (start : Option (List ℕ)) (s : SchemaModel) (bs : List RecordBatchTree) (b : RecordBatchTree) (old new : FileWriterTree W) → Lies start s bs old → WritesFileBatch b old new → Lies start s (bs ++ b ∷ []) new
  lies_more start s bs b old new lies wrote =
      let put = wrote.0 in
      let noted = wrote.1 in
      let emitted : DictionaryEntries = old.stream.emitted in
      let last : emitted ≡ emitted_after_all [] bs = lies.put.emitted in
      let more : List RecordBatchTree = bs ++ b ∷ [] in
      let front : ℕ = length (header_bytes s) in
      let reason : Option write_errors.IpcWriteError = placed_error old.position (column_types old.stream.schema) (file_state_so_far old) b in
      let taken : file_batch_error (column_types s) (file_state_so_far old) b ≡ None =
      subst (λ (x : SchemaModel). file_batch_error (column_types x) (file_state_so_far old) b ≡ None) lies.put.schema (block_taken old.position old.stream.schema (file_state_so_far old) b put.1) in
      let bytes : encoded_batches file_dictionary_batches [] more ≡ encoded_batches file_dictionary_batches [] bs ++ encoded_batch file_dictionary_batches emitted b = sym (bytes_push file_dictionary_batches [] (encoded_batches file_dictionary_batches [] bs) (encoded_batches file_dictionary_batches [] bs ++ encoded_batch file_dictionary_batches emitted b) [] emitted bs more b refl last refl refl) in
      let long : length (encoded_batches file_dictionary_batches [] more) ≡ length (encoded_batches file_dictionary_batches [] bs) + length (encoded_batch file_dictionary_batches emitted b) = ap length bytes ∙ length-append (encoded_batches file_dictionary_batches [] bs) (encoded_batch file_dictionary_batches emitted b) in
      let now : new.stream.emitted ≡ emitted_after emitted b = ap (λ (x : WriterTree W). x.emitted) put.3 in
      let known : file_state_so_far new ≡ file_state_after (file_state_so_far old) b = λ i. file_state (now i) (wrote.2 i) in
      record {
        put = has_more contents file_dictionary_batches start (header_bytes s) s bs b reason old.stream new.stream lies.put put;
        blocks = blocks_more front old.position [] emitted bs more b old.blocks new.blocks refl last lies.blocks noted.0 lies.position;
        position = omega (arith, noted.1, lies.position, long);
        known = after_more file_state_after (file_state_start s) (file_state_so_far old) (file_state_so_far new) bs more b refl lies.known known;
        again = again_more file_dictionary_batches [] emitted bs more b refl last lies.again wrote.3;
        form = from_more file_state_after (file_batch_error (column_types s)) (file_state_start s) (file_state_so_far old) bs more b refl lies.known lies.form taken;
      }

  lies_all : (start : Option (List ℕ)) (s : SchemaModel) (done bs : List RecordBatchTree) (old new : FileWriterTree W) → Lies start s done old → WritesFileBatches bs old new → Lies start s (done ++ bs) new
  lies_all start s done [] old new lies wrote = subst (λ (x : List RecordBatchTree). Lies start s x new) (sym (append-nil done)) (subst (Lies start s done) (sym wrote) lies)
  lies_all start s done (b ∷ bs) old new lies wrote =
      subst (λ (x : List RecordBatchTree). Lies start s x new) (append_assoc done (b ∷ []) bs) (lies_all start s (done ++ b ∷ []) bs wrote.0 new (lies_more start s done b old wrote.0 lies wrote.1) wrote.2)

  -- from `new` on
  lies_in : (s : SchemaModel) (bs : List RecordBatchTree) (start : W) (last : FileWriterTree W) → HasStarted s bs start last → Lies (contents start) s bs last
  lies_in s bs start last run = lies_all (contents start) s [] bs run.first last (lies_first s bs start last run) run.written

  -- ---- the footer

  -- the footer written is that of the file
  footer_is : (s : SchemaModel) (bs : List RecordBatchTree) (start : W) (last : FileWriterTree W) → HasStarted s bs start last → footer_of last ≡ written_footer s bs
  footer_is s bs start last run =
      let lies = lies_in s bs start last run in
      let blocks : last.blocks ≡ written_blocks s bs = lies.blocks ∙ ap (λ (n : ℕ). blocks_from n [] bs) (length-append file_head (schema_message s)) in
      ap (λ (x : SchemaModel). footer_over x last.blocks) lies.put.schema ∙ ap (footer_over s) blocks

  -- ---- the file

  -- all together is the file
  pub file_put : (s : SchemaModel) (bs : List RecordBatchTree) (start end : W) → IsFinishedFile s bs start end → Appends (contents start) (contents end) (encoded_file s bs)
  file_put s bs start end done =
      let ended : Appends (contents done.last.stream.inner) (contents end) (trailer_bytes (written_footer s bs)) =
      subst (λ (f : FooterModel). Appends (contents done.last.stream.inner) (contents end) (trailer_bytes f)) (footer_is s bs start done.last done.run) done.ended.2 in
      subst (Appends (contents start) (contents end)) (file_parts s bs)
      (has_ended contents file_dictionary_batches (contents start) (header_bytes s) s bs done.last.stream (contents end) (trailer_bytes (written_footer s bs)) (lies_in s bs start done.last done.run).put ended)

  -- an inner writer that was empty has just the file
  pub file_alone : (s : SchemaModel) (bs : List RecordBatchTree) (start end : W) → contents start ≡ Some [] → IsFinishedFile s bs start end → contents end ≡ Some (encoded_file s bs)
  file_alone s bs start end none done = alone (contents start) (contents end) (encoded_file s bs) none (file_put s bs start end done)

  -- the file round-trips: the schema, and the same record batches
  pub file_read : (s : SchemaModel) (bs : List RecordBatchTree) (start end : W) → IsFinishedFile s bs start end → file_in (encoded_file s bs) ≡ Ok (decoded_file s bs)
  unfolding encoded_file
  file_read s bs start end done =
      let lies = lies_in s bs start done.last done.run in
      let back : FooterRoundTrips (written_footer s bs) = subst FooterRoundTrips (footer_is s bs start done.last done.run) done.again in
      let again : projected_footer_in all (encoded_file s bs) ≡ Ok (projected_footer_of_all (written_footer s bs)) = back (encoded_messages file_dictionary_batches s bs) (written_inside s bs lies.again) in
      file_round_trips s bs again (fields_formed s done.run.begun.0) lies.form lies.again

  pub file_same : (s : SchemaModel) (bs : List RecordBatchTree) (start end : W) → IsFinishedFile s bs start end → AreSameBatches bs (decoded_file s bs).batches
  file_same s bs start end done =
      let lies = lies_in s bs start done.last done.run in
      files.file_same s bs (fields_formed s done.run.begun.0) lies.form lies.again

  -- without deltas as of a stream
  pub file_plain : (s : SchemaModel) (bs : List RecordBatchTree) (start end : W) → IsFinishedFile s bs start end → HasNoDeltas [] bs → (decoded_file s bs).batches ≡ decoded_batches bs
  file_plain s bs start end done none =
      let lies = lies_in s bs start done.last done.run in
      files.shown_alike s bs (fields_formed s done.run.begun.0) lies.form lies.again none

  -- a file cannot be finished only if its footer is too long
  abbrev pub FinishesUnlessFooterIsTooLong : Type 0
  FinishesUnlessFooterIsTooLong = (s : SchemaModel) (bs : List RecordBatchTree) (start : W) (last : FileWriterTree W) → HasStarted s bs start last → trailer_error (footer_of last) ≡ footer_error (written_footer s bs)

  pub end_is : FinishesUnlessFooterIsTooLong
  end_is s bs start last run =
      ap trailer_error (footer_is s bs start last run) ∙ ap (λ (form : Result (Unit {0}) write_errors.IpcWriteError). or_error (error_of form) (footer_error (written_footer s bs))) (fields_formed s run.begun.0)

  -- it has no error
  pub file_form : (s : SchemaModel) (bs : List RecordBatchTree) (start end : W) → IsFinishedFile s bs start end → file_error s bs ≡ None
  file_form s bs start end done =
      let schema : schema_error s ≡ None = done.run.begun.0 in
      let batches : file_batches_error (column_types s) (file_state_start s) bs ≡ None = (lies_in s bs start done.last done.run).form in
      let footer : footer_error (written_footer s bs) ≡ None = sym (end_is s bs start done.last done.run) ∙ done.ended.1 in
      rw (schema, batches) footer

  -- a writer that fails in one more record batch has written a prefix of the file, whatever batches were to follow
  abbrev pub FailedFileIsPrefix : Type 0
  FailedFileIsPrefix = (s : SchemaModel) (bs more : List RecordBatchTree) (b : RecordBatchTree) (start : W) (last : FileWriterTree W) (new : WriterTree W) (reason : Option write_errors.IpcWriteError) (emitted : DictionaryEntries) (result : Result ⊤ errors.WriteError) → IsIo result → HasStarted s bs start last
      → WritesBytes contents reason (encoded_batch file_dictionary_batches last.stream.emitted b) emitted last.stream new result → WritesPrefix (contents start) (contents new.inner) (encoded_file s (bs ++ b ∷ more))

  pub file_begins : FailedFileIsPrefix
  file_begins s bs more b start last new reason emitted result is run put =
      let part : List ℕ = encoded_batch file_dictionary_batches last.stream.emitted b in
      let out : WritesPrefix (contents last.stream.inner) (contents new.inner) part = went_out contents reason part emitted last.stream new result is put in
      subst (WritesPrefix (contents start) (contents new.inner)) (file_parts s (bs ++ b ∷ more))
      (has_beginning contents file_dictionary_batches (contents start) (header_bytes s) s bs more b last.stream (contents new.inner) (trailer_bytes (written_footer s (bs ++ b ∷ more))) (lies_in s bs start last run).put out)
