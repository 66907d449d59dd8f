-- What follows from the definitions of `Files`, and that a written file round-trips.
use Rattle.std.specs.Prelude.{◌≡◌, ℕ, zero, suc, ◌+◌, ◌<◌, true, List, [], ◌∷◌, ◌++◌, map, length, get_or, None, Result, Ok, Err, refl}
use Rattle.std.proofs.Common.{inl, sym, ap, ◌∙◌, append_assoc, arith}
use Rattle.std.specs.List.{AllByRecursion, flat_map}
use Rattle.std.proofs.lemmas.List.{length-append}
use Rattle.std.proofs.lemmas.List.Concat.{flat_map-cons}
use Rattle.nest_memory.specs.TypeTree.{TypeTree}
use Rattle.ipc_flatbuf.specs.ReadResults.{◌>>=◌}
use Rattle.ipc_flatbuf.specs.declared.error.IpcReadError.{IpcReadError}
use Rattle.ipc_flatbuf.specs.Messages.{MessageModel}
use Rattle.ipc_flatbuf.specs.MessageBytes.{end_of_stream}
use Rattle.ipc_flatbuf.specs.declared.message.types.MessageKind.TheVariants.{DictionaryBatch, RecordBatch}
use Rattle.ipc_schema.specs.WriteChecks.{check_fields}
use Rattle.ipc_schema.specs.ProjectedSchemas.{ProjectedSchemaModel}
use Rattle.ipc_schema.specs.Projections.{all}
use Rattle.ipc_schema.specs.Schemas.{SchemaModel}
use Rattle.ipc_schema.specs.SchemaBytes.{schema_message}
use Rattle.ipc_schema.specs.declared.footer.types.Block.{Block}
use Rattle.ipc_schema.specs.FooterBytes.{file_head, file_end}
use Rattle.ipc_schema.specs.FooterLaws.{projected_footer_of_all}
use Rattle.ipc_schema.specs.Footers.{spec_blocks_before}
use Rattle.ipc_schema.specs.ProjectedFooters.{projected_footer_in}
use Rattle.ipc_arrays.specs.Encoding.{columns_body}
use Rattle.ipc.specs.RoundTripLaws.{columns_again}
use Rattle.ipc.specs.DictionaryEntries.{DictionaryEntries}
use Rattle.ipc.specs.FileDictionaries.{DictionaryBatchTree}
use Rattle.ipc.specs.FilesLikeStreams.{all_as_stream}
use Rattle.ipc.specs.FileStateLaws.{write_read, starts_file, IsAccepted, is_accepted, IsAtEnd, AreAtEnd, all_next}
use Rattle.ipc.specs.FileBlockLaws.{batch_long, write_long, blocks_fit, message_found, LiesAt, lies_at}
use Rattle.ipc.specs.Files.{block_in, block_batch_in, batches_at, dictionaries_at, no_block, file_reader_in, projected_file_in, file_in}
use Rattle.ipc.specs.Streams.{RecordBatchTree, StateTree, column_types, dictionary_in}
use Rattle.ipc.specs.EncodedStreams.{batch_head, batch_bytes, dictionary_head, dictionary_bytes, emitted_after, encoded_batches, encoded_messages, decoded_record_batch, decoded_batches, AreSameBatches, DictionaryRoundTrips, BatchesRoundTrip}
use Rattle.ipc.specs.EncodedFiles.{block_at, written_block, file_dictionary_batches, dictionary_blocks, batch_offset, blocks_from, written_footer, encoded_file, state_after, after, FileState, file_state_after, file_state_start, file_state_end, dictionary_batch_error, dictionary_batches_error, file_batch_error, file_batches_error, HasNoDeltas, decoded_file}
use Rattle.ipc.specs.EncodedBatches.{first_accepts, others_accept}

-- ---- a reader returns the record batches of its file

-- a record batch of no file
abbrev pub no_arrays : RecordBatchTree
no_arrays = record { rows = 0; columns = [] }

record IsFirst (first : Result RecordBatchTree IpcReadError) (others : Result (List RecordBatchTree) IpcReadError) (batches : List RecordBatchTree) : Type 0 where
  batch : RecordBatchTree
  rest : List RecordBatchTree
  is : batches ≡ batch ∷ rest
  one : first ≡ Ok batch
  more : others ≡ Ok rest

first_is : (first : Result RecordBatchTree IpcReadError) (others : Result (List RecordBatchTree) IpcReadError) (batches : List RecordBatchTree) → (first >>= λ batch. others >>= λ rest. Ok (batch ∷ rest)) ≡ Ok batches → IsFirst first others batches
first_is (Ok batch) (Ok rest) batches h = record { batch = batch; rest = rest; is = cc; one = refl; more = refl }
first_is (Ok batch) (Err error) batches h = cc
first_is (Err error) others batches h = cc

pub each_is : (schema : StateTree) (bytes : List ℕ) (blocks : List Block) (batches : List RecordBatchTree) (i : ℕ) → batches_at schema bytes blocks ≡ Ok batches → i < length blocks → block_batch_in schema bytes (get_or blocks i no_block) ≡ Ok (get_or batches i no_arrays)
unfolding batches_at
each_is schema bytes [] batches i h lt = absurd (omega arith)
each_is schema bytes (b ∷ blocks) batches zero h lt =
    let e = first_is (block_batch_in schema bytes b) (batches_at schema bytes blocks) batches h in
    rw e.is e.one
each_is schema bytes (b ∷ blocks) batches (suc i) h lt =
    let e = first_is (block_batch_in schema bytes b) (batches_at schema bytes blocks) batches h in
    rw e.is (each_is schema bytes blocks e.rest i e.more (omega arith))

-- ---- all blocks end before the footer

pub written_inside : (s : SchemaModel) (bs : List RecordBatchTree) → BatchesRoundTrip file_dictionary_batches [] bs → spec_blocks_before (8 + length (encoded_messages file_dictionary_batches s bs)) ((written_footer s bs).dictionaries ++ (written_footer s bs).batches) ≡ true
unfolding encoded_messages
written_inside s bs ok =
    blocks_fit (8 + length (schema_message s)) (8 + length (encoded_messages file_dictionary_batches s bs)) [] bs ok (omega arith) (omega (arith, length-append (schema_message s) (encoded_batches file_dictionary_batches [] bs ++ end_of_stream), length-append (encoded_batches file_dictionary_batches [] bs) end_of_stream))

-- ---- dictionary batches are read by their blocks

-- the dictionary batch of a block, and those after it
write_at_block : (s next : StateTree) (m : MessageModel) (whole : List ℕ) (block : Block) (blocks : List Block) → block_in DictionaryBatch s.picked whole block ≡ Ok m → dictionary_in true s m ≡ Ok next → dictionaries_at s whole (block ∷ blocks) ≡ dictionaries_at next whole blocks
unfolding dictionaries_at
write_at_block s next m whole block blocks found known = rw (found, known) refl

puts_at_blocks : (ps : List DictionaryBatchTree) (s : StateTree) (blocks : List Block) (front behind whole : List ℕ) → AllByRecursion DictionaryRoundTrips ps → dictionary_batches_error s ps ≡ None → whole ≡ front ++ (flat_map dictionary_bytes ps ++ behind)
    → dictionaries_at s whole (dictionary_blocks (length front) ps ++ blocks) ≡ dictionaries_at (after state_after s ps) whole blocks
unfolding dictionary_blocks
puts_at_blocks [] s blocks front behind whole ok none e = refl
puts_at_blocks (p ∷ ps) s blocks front behind whole ok none e =
    let t : StateTree = state_after s p in
    let rest : List ℕ = flat_map dictionary_bytes ps ++ behind in
    let split : flat_map dictionary_bytes (p ∷ ps) ++ behind ≡ dictionary_bytes p ++ rest = ap (λ (l : List ℕ). l ++ behind) (flat_map-cons dictionary_bytes p ps) ∙ append_assoc (dictionary_bytes p) (flat_map dictionary_bytes ps) behind in
    let here : whole ≡ front ++ (dictionary_bytes p ++ rest) = e ∙ ap (λ (l : List ℕ). front ++ l) split in
    let next : whole ≡ (front ++ dictionary_bytes p) ++ rest = here ∙ sym (append_assoc front (dictionary_bytes p) rest) in
    let position : length front + length (dictionary_bytes p) ≡ length (front ++ dictionary_bytes p) = sym (length-append front (dictionary_bytes p)) in
    let found = message_found DictionaryBatch s.picked (dictionary_bytes p) (dictionary_head p) (columns_body (p.1.1 ∷ [])) ok.0.parts front rest whole ok.0.message ok.0.kind (write_long p) here in
    let known : dictionary_in true s ok.0.parts ≡ Ok t = write_read s p ok.0 (first_accepts (dictionary_batch_error s p) (dictionary_batches_error t ps) none) in
    let others : List Block = dictionary_blocks (length front + length (dictionary_bytes p)) ps ++ blocks in
    write_at_block s t ok.0.parts whole (block_at (length front) (dictionary_head p) (columns_body (p.1.1 ∷ []))) others found known
    ∙ ap (λ (n : ℕ). dictionaries_at t whole (dictionary_blocks n ps ++ blocks)) position
    ∙ puts_at_blocks ps t blocks (front ++ dictionary_bytes p) behind whole ok.1 (others_accept (dictionary_batch_error s p) (dictionary_batches_error t ps) none) next

-- those of all record batches lead to the last state
pub dictionaries_again : (types : List TypeTree) (f : FileState) (bs : List RecordBatchTree) (position : ℕ) (front behind whole : List ℕ) → BatchesRoundTrip file_dictionary_batches f.emitted bs → file_batches_error types f bs ≡ None → position ≡ length front → whole ≡ front ++ (encoded_batches file_dictionary_batches f.emitted bs ++ behind)
    → dictionaries_at f.state whole (blocks_from position f.emitted bs).dictionaries ≡ Ok (after file_state_after f bs).state
unfolding blocks_from
dictionaries_again types f [] position front behind whole ok none there e = unfold dictionaries_at in refl
dictionaries_again types f (b ∷ bs) position front behind whole ok none there e =
    let g : FileState = file_state_after f b in
    let ps : List DictionaryBatchTree = file_dictionary_batches f.emitted b in
    let lies : LiesAt f.emitted b bs position front behind whole = lies_at f.emitted b bs position front behind whole there e in
    let accepted : IsAccepted types f b = is_accepted types f b (first_accepts (file_batch_error types f b) (file_batches_error types g bs) none) in
    let next : ℕ = batch_offset position f.emitted b + length (batch_bytes b) in
    let blocks : List Block = (blocks_from next g.emitted bs).dictionaries in
    ap (λ (n : ℕ). dictionaries_at f.state whole (dictionary_blocks n ps ++ blocks)) there
    ∙ puts_at_blocks ps f.state blocks front lies.after whole ok.0.dictionaries accepted.puts lies.puts
    ∙ dictionaries_again types g bs next lies.next behind whole ok.1 (others_accept (file_batch_error types f b) (file_batches_error types g bs) none) lies.further lies.more

-- ---- record batches are read by their blocks, in the last state

block_again : (end : StateTree) (b : RecordBatchTree) (front behind whole : List ℕ) → IsAtEnd end b → whole ≡ front ++ (batch_bytes b ++ behind) → block_batch_in end whole (written_block (length front) b) ≡ Ok (decoded_record_batch end.known b)
block_again end b front behind whole ok e =
    let found = message_found RecordBatch end.picked (batch_bytes b) (batch_head b) (columns_body b.columns) ok.again.parts front behind whole ok.again.message ok.again.kind (batch_long b) e in
    rw (found, ok.again.columns end ok.reads) refl

-- the record batch of a block, and those after it
batch_at_block : (s : StateTree) (batch : RecordBatchTree) (batches : List RecordBatchTree) (whole : List ℕ) (block : Block) (blocks : List Block) → block_batch_in s whole block ≡ Ok batch → batches_at s whole blocks ≡ Ok batches → batches_at s whole (block ∷ blocks) ≡ Ok (batch ∷ batches)
unfolding batches_at
batch_at_block s batch batches whole block blocks one others = rw (one, others) refl

pub batches_again : (end : StateTree) (emitted : DictionaryEntries) (bs : List RecordBatchTree) (position : ℕ) (front behind whole : List ℕ) → AllByRecursion (IsAtEnd end) bs → position ≡ length front → whole ≡ front ++ (encoded_batches file_dictionary_batches emitted bs ++ behind)
    → batches_at end whole (blocks_from position emitted bs).batches ≡ Ok (map (decoded_record_batch end.known) bs)
unfolding blocks_from
batches_again end emitted [] position front behind whole ok there e = unfold batches_at in refl
batches_again end emitted (b ∷ bs) position front behind whole ok there e =
    let lies : LiesAt emitted b bs position front behind whole = lies_at emitted b bs position front behind whole there e in
    let next : ℕ = batch_offset position emitted b + length (batch_bytes b) in
    let blocks : List Block = (blocks_from next (emitted_after emitted b) bs).batches in
    let one = block_again end b lies.batch (encoded_batches file_dictionary_batches (emitted_after emitted b) bs ++ behind) whole ok.0 lies.is in
    let rest = batches_again end (emitted_after emitted b) bs next lies.next behind whole ok.1 lies.further lies.more in
    ap (λ (n : ℕ). batches_at end whole (written_block n b ∷ blocks)) lies.there
    ∙ batch_at_block end (decoded_record_batch end.known b) (map (decoded_record_batch end.known) bs) whole (written_block (length lies.batch) b) blocks one rest

-- ---- files

pub at_end : (s : SchemaModel) (bs : List RecordBatchTree) → check_fields s.fields ≡ Ok tt → file_batches_error (column_types s) (file_state_start s) bs ≡ None → BatchesRoundTrip file_dictionary_batches [] bs → AreAtEnd (file_state_start s) (file_state_end s bs).state bs
at_end s bs form none ok = all_next (column_types s) (file_state_start s) bs refl ok (starts_file s form) none

pub file_round_trips : (s : SchemaModel) (bs : List RecordBatchTree) → projected_footer_in all (encoded_file s bs) ≡ Ok (projected_footer_of_all (written_footer s bs)) → check_fields s.fields ≡ Ok tt → file_batches_error (column_types s) (file_state_start s) bs ≡ None → BatchesRoundTrip file_dictionary_batches [] bs → file_in (encoded_file s bs) ≡ Ok (decoded_file s bs)
unfolding projected_file_in file_reader_in
file_round_trips s bs footer form none ok =
    let end : StateTree = (file_state_end s bs).state in
    let whole : List ℕ = encoded_file s bs in
    let front : List ℕ = file_head ++ schema_message s in
    let behind : List ℕ = end_of_stream ++ file_end (written_footer s bs) in
    let start : ℕ = 8 + length (schema_message s) in
    let all_at : AreAtEnd (file_state_start s) end bs = at_end s bs form none ok in
    let regrouped : whole ≡ front ++ (encoded_batches file_dictionary_batches [] bs ++ behind) = unfold encoded_file encoded_messages in simp append_assoc in
    let position : start ≡ length front = sym (length-append file_head (schema_message s)) in
    let dictionaries = dictionaries_again (column_types s) (file_state_start s) bs start front behind whole ok none position regrouped in
    let batches = batches_again end [] bs start front behind whole all_at.each position regrouped in
    let read : file_in whole ≡ Ok (record { schema = end.picked.schema; batches = map (decoded_record_batch end.known) bs }) = rw (footer, dictionaries, batches) refl in
    read ∙ ap (λ (p : ProjectedSchemaModel). Ok (record { schema = p.schema; batches = map (decoded_record_batch end.known) bs })) all_at.later.picked

-- with the same rows and slots
same_at_end : (end : StateTree) (bs : List RecordBatchTree) → AllByRecursion (IsAtEnd end) bs → AreSameBatches bs (map (decoded_record_batch end.known) bs)
same_at_end end [] ok = tt
same_at_end end (b ∷ bs) ok =
    let back = columns_again end.known b.columns ok.0.again.over ok.0.reads.known in
    (record { rows = refl; types = back.types; slots = back.slots }, same_at_end end bs ok.1)

pub file_same : (s : SchemaModel) (bs : List RecordBatchTree) → check_fields s.fields ≡ Ok tt → file_batches_error (column_types s) (file_state_start s) bs ≡ None → BatchesRoundTrip file_dictionary_batches [] bs → AreSameBatches bs (decoded_file s bs).batches
file_same s bs form none ok = same_at_end (file_state_end s bs).state bs (at_end s bs form none ok).each

-- without deltas the record batches are those of the stream
pub shown_alike : (s : SchemaModel) (bs : List RecordBatchTree) → check_fields s.fields ≡ Ok tt → file_batches_error (column_types s) (file_state_start s) bs ≡ None → BatchesRoundTrip file_dictionary_batches [] bs → HasNoDeltas [] bs → (decoded_file s bs).batches ≡ decoded_batches bs
shown_alike s bs form none ok still = (all_as_stream (column_types s) (file_state_start s) bs refl ok (starts_file s form) none (inl refl) still).batches
