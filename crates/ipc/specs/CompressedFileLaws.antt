-- A file with compressed buffers is read as the file without compression.
use Rattle.std.specs.Prelude.{◌≡◌, ℕ, suc, ◌+◌, ◌≤◌, ◌<◌, ℤ, Bool, true, false, ◌==◌, List, [], ◌∷◌, ◌++◌, map, sum, length, Option, Some, None, Result, Ok, Err, refl, if◌then◌else◌}
use Rattle.std.proofs.Common.{◌^◌, inl, inr, leb, sym, ap, subst, ◌∙◌, append_assoc, arith}
use Rattle.std.specs.Int.{w64}
use Rattle.std.specs.Int.RustNames.{FitsSigned}
use Rattle.std.specs.List.{AllByRecursion, flat_map, list_all}
use Rattle.std.proofs.lemmas.Bool.{le-leb, lt-leb}
use Rattle.std.proofs.lemmas.List.{append-nil, length-append}
use Rattle.std.proofs.lemmas.List.Concat.{flat_map-cons, flat_map-append}
use Rattle.std.proofs.lemmas.List.Sums.{sum_by-cons}
use Rattle.nest_memory.specs.TypeTree.{TypeTree}
use Rattle.nest_model.specs.Array.{IsArray}
use Rattle.nest_model.specs.Layout.{Layout}
use Rattle.nest_model.specs.Meaning.{len}
use Rattle.ipc_flatbuf.specs.ReadResults.{◌>>=◌}
use Rattle.ipc_flatbuf.specs.declared.error.IpcReadError.{IpcReadError}
use Rattle.ipc_flatbuf.specs.declared.error.IpcWriteError.{IpcWriteError}
use Rattle.ipc_flatbuf.specs.declared.error.IpcWriteError.TheVariants.{Columns}
use Rattle.ipc_flatbuf.specs.declared.compression.codec.CompressionCodec.TheVariants.{Lz4Frame}
use Rattle.ipc_flatbuf.specs.declared.message.types.MessageKind.TheVariants.{DictionaryBatch, RecordBatch}
use Rattle.ipc_flatbuf.specs.Messages.{MessageModel, message_at}
use Rattle.ipc_flatbuf.specs.MessageBytes.{end_of_stream}
use Rattle.ipc_schema.specs.Dictionaries.{DictionaryTypesModel}
use Rattle.ipc_schema.specs.WriteChecks.{check_fields}
use Rattle.ipc_schema.specs.WriteChecks as forms
use Rattle.ipc_schema.specs.ProjectedSchemas.{ProjectedSchemaModel}
use Rattle.ipc_schema.specs.ProjectedFooters.{projected_footer_in}
use Rattle.ipc_schema.specs.Projections.{all}
use Rattle.ipc_schema.specs.Schemas.{SchemaModel}
use Rattle.ipc_schema.specs.SchemaBytes.{schema_message}
use Rattle.ipc_schema.specs.FooterBytes.{footer_bytes, file_head, file_end}
use Rattle.ipc_schema.specs.FooterLaws.{FooterRoundTrips, projected_footer_of_all, footer_long}
use Rattle.ipc_schema.specs.Footers.{is_block_before, spec_block_length, spec_blocks_before}
use Rattle.ipc_schema.specs.declared.footer.types.Block.{Block}
use Rattle.ipc_arrays.specs.BodyBuffers.{body_of}
use Rattle.ipc_arrays.specs.NormalizedLaws.{pass_append}
use Rattle.ipc_arrays.specs.Encoding.{columns_body}
use Rattle.ipc.specs.DictionaryEntries.{DictionaryEntries}
use Rattle.ipc.specs.KnownDictionaryLaws.{all_both, columns_needed_of}
use Rattle.ipc.specs.SchemaIds.{IsNamed, seen_of_fields}
use Rattle.ipc.specs.PendingDictionaries.{entry_at}
use Rattle.ipc.specs.FileDictionaries.{DictionaryBatchTree, spec_delta_values, batches_for, spec_dictionary_batches}
use Rattle.ipc.specs.FileDictionaryLaws.{puts_named}
use Rattle.ipc.specs.Streams.{RecordBatchTree, StateTree, column_types, dictionary_in, record_batch_in}
use Rattle.ipc.specs.Files.{block_in, block_batch_in, batches_at, dictionaries_at, file_reader_in, projected_file_in, file_in}
use Rattle.ipc.specs.FileBlockLaws.{message_found}
use Rattle.ipc.specs.FileStateLaws.{write_read, IsBehindFile, starts_file, is_accepted, IsNext, part_next, IsAtEnd, AreAtEnd}
use Rattle.ipc.specs.FileLaws.{at_end}
use Rattle.ipc.specs.EncodedStreams.{batch_head, batch_bytes, dictionary_head, dictionary_bytes, pending_by, emitted_after, encoded_batch, or_error, each_error, schema_error, size_error_if, IsErrorOrMemory, dictionary_error, record_batch_error, spec_are_columns, decoded_record_batch, IsMessage, RecordBatchRoundTrips, DictionaryRoundTrips, BatchRoundTrips, BatchesRoundTrip}
use Rattle.ipc.specs.EncodedFiles.{Blocks, FileState, block_at, no_blocks, dictionary_blocks, batch_offset, blocks_from, written_footer, footer_error, file_dictionary_batches, state_with_dictionary, state_after, after, file_state_after, file_state_start, file_state_end, block_length_error, dictionary_block_error, record_batch_block_error, replaced_error, unreadable_error, dictionary_batch_error, dictionary_batches_error, part_error, file_batch_error, file_batches_error, decoded_file}
use Rattle.ipc.specs.EncodedBatches.{first_accepts, others_accept, both_accepted, later_refused, fields_formed, emitted_after_all}
use Rattle.ipc.specs.CompressedMessages.{head_with, ArePlainMessages}
use Rattle.ipc.specs.CompressedStreams.{batch_message_of, dictionary_message_of, messages_of}
use Rattle.ipc.specs.CompressedFiles.{FileMessage, file_message_bytes, with_first_block, message_blocks, both_blocks, footer_with_blocks, footer_of_messages, file_inner, file_of_messages, CompressesMessage, CompressesMessages, IsCompressedFileBatch, AreCompressedFileBatches, AppendsCompressedFileBatch, compressed_messages_error, compressed_file_batch_error, compressed_file_batches_error, compressed_file_messages_error, compressed_file_error}
use Rattle.ipc.specs.ReadsAsPlainLaws.{BatchIsBack, DictionaryIsBack, batch_is_back, each_is_back, plain_messages, batch_alike, dictionary_same, dictionary_keeps}

-- ---- the blocks of messages

blocks_first : (k : Bool) (block : Block) (first more : Blocks) → with_first_block k block (both_blocks first more) ≡ both_blocks (with_first_block k block first) more
blocks_first true block first more = refl
blocks_first false block first more = refl

all_long : (m : FileMessage) (ms : List FileMessage) → length (flat_map file_message_bytes (m ∷ ms)) ≡ length (file_message_bytes m) + length (flat_map file_message_bytes ms)
all_long m ms = ap length (flat_map-cons file_message_bytes m ms) ∙ length-append (file_message_bytes m) (flat_map file_message_bytes ms)

-- one list of messages after another
pub blocks_both : (position : ℕ) (ms ns : List FileMessage) → message_blocks position (ms ++ ns) ≡ both_blocks (message_blocks position ms) (message_blocks (position + length (flat_map file_message_bytes ms)) ns)
unfolding message_blocks
blocks_both position [] ns =
    let start : position + 0 ≡ position = omega arith in
    ap (λ (n : ℕ). message_blocks n ns) (sym start)
blocks_both position (m ∷ ms) ns =
    let next : ℕ = position + length (file_message_bytes m) in
    let block : Block = block_at position m.head m.body in
    let there : next + length (flat_map file_message_bytes ms) ≡ position + length (flat_map file_message_bytes (m ∷ ms)) = omega (arith, all_long m ms) in
    ap (with_first_block m.is_dictionary block) (blocks_both next ms ns)
    ∙ blocks_first m.is_dictionary block (message_blocks next ms) (message_blocks (next + length (flat_map file_message_bytes ms)) ns)
    ∙ ap (λ (n : ℕ). both_blocks (with_first_block m.is_dictionary block (message_blocks next ms)) (message_blocks n ns)) there

-- ---- all blocks end before the footer

-- the head of a message has the 8 bytes before its metadata
abbrev HasHead : FileMessage → Type 0
HasHead m = 8 ≤ length m.head

record LieBefore (end : ℕ) (blocks : Blocks) : Type 0 where
  dictionaries : list_all (is_block_before end) blocks.dictionaries ≡ true
  batches : list_all (is_block_before end) blocks.batches ≡ true

lies_before : (position end : ℕ) (m : FileMessage) → 8 ≤ position → HasHead m → position + length (file_message_bytes m) ≤ end → is_block_before end (block_at position m.head m.body) ≡ true
lies_before position end m le long within =
    let begins : leb 8 position ≡ true = le-leb _ _ le in
    let headed : leb 8 (length m.head) ≡ true = le-leb _ _ long in
    let ends : leb (position + length m.head + length m.body) end ≡ true = le-leb _ _ (omega (arith, within, length-append m.head m.body)) in
    rw (begins, headed, ends) refl

first_before : (k : Bool) (end : ℕ) (block : Block) (blocks : Blocks) → is_block_before end block ≡ true → LieBefore end blocks → LieBefore end (with_first_block k block blocks)
first_before true end block blocks one more = record { dictionaries = rw (one, more.dictionaries) refl; batches = more.batches }
first_before false end block blocks one more = record { dictionaries = more.dictionaries; batches = rw (one, more.batches) refl }

lie_before : (position end : ℕ) (ms : List FileMessage) → AllByRecursion HasHead ms → 8 ≤ position → position + length (flat_map file_message_bytes ms) ≤ end → LieBefore end (message_blocks position ms)
unfolding message_blocks
lie_before position end [] heads le within = record { dictionaries = refl; batches = refl }
lie_before position end (m ∷ ms) heads le within =
    let next : ℕ = position + length (file_message_bytes m) in
    let long = all_long m ms in
    let one = lies_before position end m le heads.0 (omega (arith, long, within)) in
    first_before m.is_dictionary end (block_at position m.head m.body) (message_blocks next ms) one (lie_before next end ms heads.1 (omega (arith, le)) (omega (arith, long, within)))

abbrev total : List Block → ℕ
total blocks = sum (map spec_block_length blocks)

abbrev total_of : Blocks → ℕ
total_of blocks = total blocks.dictionaries + total blocks.batches

total_more : (b : Block) (blocks : List Block) → total (b ∷ blocks) ≡ spec_block_length b + total blocks
total_more b blocks = sum_by-cons (λ (n : ℕ). n) (spec_block_length b) (map spec_block_length blocks)

total_both : (xs ys : List Block) → total (xs ++ ys) ≡ total xs + total ys
total_both [] ys = omega arith
total_both (x ∷ xs) ys = omega (arith, total_more x (xs ++ ys), total_more x xs, total_both xs ys)

total_first : (k : Bool) (block : Block) (blocks : Blocks) → total_of (with_first_block k block blocks) ≡ spec_block_length block + total_of blocks
total_first true block blocks = omega (arith, total_more block blocks.dictionaries)
total_first false block blocks = omega (arith, total_more block blocks.batches)

-- together they are as long as the messages
all_total : (position : ℕ) (ms : List FileMessage) → total_of (message_blocks position ms) ≡ length (flat_map file_message_bytes ms)
unfolding message_blocks
all_total position [] = refl
all_total position (m ∷ ms) =
    let next : ℕ = position + length (file_message_bytes m) in
    omega (arith, total_first m.is_dictionary (block_at position m.head m.body) (message_blocks next ms), length-append m.head m.body, all_long m ms, all_total next ms)

blocks_fit : (position end : ℕ) (ms : List FileMessage) → AllByRecursion HasHead ms → 8 ≤ position → position + length (flat_map file_message_bytes ms) ≤ end → spec_blocks_before end ((message_blocks position ms).dictionaries ++ (message_blocks position ms).batches) ≡ true
blocks_fit position end ms heads le within =
    let blocks : Blocks = message_blocks position ms in
    let before : LieBefore end blocks = lie_before position end ms heads le within in
    let each : list_all (is_block_before end) (blocks.dictionaries ++ blocks.batches) ≡ true = pass_append (is_block_before end) blocks.dictionaries blocks.batches ∙ rw (before.dictionaries, before.batches) refl in
    let together : leb (total (blocks.dictionaries ++ blocks.batches)) end ≡ true = le-leb _ _ (omega (arith, total_both blocks.dictionaries blocks.batches, all_total position ms, within)) in
    rw (each, together) refl

-- ---- a compressed message is read by its block

-- its head, and the message that is read
batch_part_is : (b : RecordBatchTree) (m : FileMessage) (c : CompressesMessage (batch_message_of b) m) → IsMessage (file_message_bytes m) m.head m.body c.again.parts
batch_part_is b m c =
    let again = c.again in
    record {
      again = λ rest. ap (λ (x : FileMessage). message_at (file_message_bytes x ++ rest)) c.is ∙ ap message_at (append_assoc (head_with (batch_message_of b) (Some Lz4Frame) c.buffers) (body_of c.buffers) rest) ∙ again.again rest;
      version = again.version;
      head_long = again.long ∙ sym (ap (λ (x : FileMessage). length x.head) c.is);
      body_long = ap length again.same_body ∙ sym (ap (λ (x : FileMessage). length x.body) c.is);
    }

dictionary_part_is : (p : DictionaryBatchTree) (m : FileMessage) (c : CompressesMessage (dictionary_message_of p) m) → IsMessage (file_message_bytes m) m.head m.body c.again.parts
dictionary_part_is p m c =
    let again = c.again in
    record {
      again = λ rest. ap (λ (x : FileMessage). message_at (file_message_bytes x ++ rest)) c.is ∙ ap message_at (append_assoc (head_with (dictionary_message_of p) (Some Lz4Frame) c.buffers) (body_of c.buffers) rest) ∙ again.again rest;
      version = again.version;
      head_long = again.long ∙ sym (ap (λ (x : FileMessage). length x.head) c.is);
      body_long = ap length again.same_body ∙ sym (ap (λ (x : FileMessage). length x.body) c.is);
    }

batch_kind : (b : RecordBatchTree) (m : FileMessage) → CompressesMessage (batch_message_of b) m → m.is_dictionary ≡ false
batch_kind b m c = ap (λ (x : FileMessage). x.is_dictionary) c.is

dictionary_kind : (p : DictionaryBatchTree) (m : FileMessage) → CompressesMessage (dictionary_message_of p) m → m.is_dictionary ≡ true
dictionary_kind p m c = ap (λ (x : FileMessage). x.is_dictionary) c.is

-- bytes have one message
same_message : (read : Result (Option MessageModel × List ℕ) IpcReadError) (x y : MessageModel) → read ≡ Ok (Some x, []) → read ≡ Ok (Some y, []) → x ≡ y
same_message read x y h k =
    let both : ◌≡◌ {A = Result (Option MessageModel × List ℕ) IpcReadError} (Ok (Some x, [])) (Ok (Some y, [])) = sym h ∙ k in
    let pairs : ◌≡◌ {A = Option MessageModel × List ℕ} (Some x, []) (Some y, []) = cc in
    let found : ◌≡◌ {A = Option MessageModel} (Some x) (Some y) = ap (λ (p : Option MessageModel × List ℕ). p.0) pairs in
    cc

same_dictionary : (p : DictionaryBatchTree) (back : DictionaryIsBack p) (ok : DictionaryRoundTrips p) → back.parts ≡ ok.parts
unfolding dictionary_bytes
same_dictionary p back ok = same_message (message_at (dictionary_bytes p ++ [])) back.parts ok.parts (ap message_at (append_assoc (dictionary_head p) (columns_body (p.1.1 ∷ [])) []) ∙ back.again []) (ok.message.again [])

same_batch : (b : RecordBatchTree) (back : BatchIsBack b) (ok : RecordBatchRoundTrips b) → back.parts ≡ ok.parts
unfolding batch_bytes
same_batch b back ok = same_message (message_at (batch_bytes b ++ [])) back.parts ok.parts (ap message_at (append_assoc (batch_head b) (columns_body b.columns) []) ∙ back.again []) (ok.message.again [])

-- a dictionary batch without an error
record CanAdd (s : StateTree) (p : DictionaryBatchTree) : Type 0 where
  back : DictionaryIsBack p
  ok : DictionaryRoundTrips p
  named : IsNamed s.picked.seen.named p.1
  none : dictionary_batch_error s p ≡ None

plain_known : (s : StateTree) (p : DictionaryBatchTree) (can : CanAdd s p) → dictionary_in true s can.back.parts ≡ Ok (state_after s p)
plain_known s p can = ap (dictionary_in true s) (same_dictionary p can.back can.ok) ∙ write_read s p can.ok can.none

compressed_known : (s : StateTree) (p : DictionaryBatchTree) (m : FileMessage) (can : CanAdd s p) (c : CompressesMessage (dictionary_message_of p) m) → dictionary_in true s c.again.parts ≡ Ok (state_after s p)
compressed_known s p m can c = dictionary_same p c.buffers (head_with (dictionary_message_of p) (Some Lz4Frame) c.buffers) true s c.written can.back c.again can.named ∙ plain_known s p can

still_picked : (s : StateTree) (p : DictionaryBatchTree) → CanAdd s p → (state_after s p).picked ≡ s.picked
still_picked s p can = dictionary_keeps true s (state_after s p) can.back.parts (plain_known s p can)

-- the dictionary batch of a block, and those after it
next_at_block : (s next : StateTree) (message : MessageModel) (whole : List ℕ) (block : Block) (blocks : List Block) → block_in DictionaryBatch s.picked whole block ≡ Ok message → dictionary_in true s message ≡ Ok next → dictionaries_at s whole (block ∷ blocks) ≡ dictionaries_at next whole blocks
unfolding dictionaries_at
next_at_block s next message whole block blocks found known = rw (found, known) refl

-- the record batch of a block, and those after it
batch_at_block : (s : StateTree) (batch : RecordBatchTree) (batches : List RecordBatchTree) (whole : List ℕ) (block : Block) (blocks : List Block) → block_batch_in s whole block ≡ Ok batch → batches_at s whole blocks ≡ Ok batches → batches_at s whole (block ∷ blocks) ≡ Ok (batch ∷ batches)
unfolding batches_at
batch_at_block s batch batches whole block blocks one others = rw (one, others) refl

-- no blocks
no_dictionaries : (s : StateTree) (whole : List ℕ) → dictionaries_at s whole [] ≡ Ok s
unfolding dictionaries_at
no_dictionaries s whole = refl

no_batches : (s : StateTree) (whole : List ℕ) → batches_at s whole [] ≡ Ok []
unfolding batches_at
no_batches s whole = refl

-- ---- the messages of a record batch

-- its dictionary batches have no error
record CanAddAll (s : StateTree) (ps : List DictionaryBatchTree) : Type 0 where
  back : AllByRecursion DictionaryIsBack ps
  ok : AllByRecursion DictionaryRoundTrips ps
  named : AllByRecursion (λ p. IsNamed s.picked.seen.named p.1) ps
  none : dictionary_batches_error s ps ≡ None

first_of : (s : StateTree) (p : DictionaryBatchTree) (ps : List DictionaryBatchTree) → CanAddAll s (p ∷ ps) → CanAdd s p
first_of s p ps can = record { back = can.back.0; ok = can.ok.0; named = can.named.0; none = first_accepts (dictionary_batch_error s p) (dictionary_batches_error (state_after s p) ps) can.none }

others_of : (s : StateTree) (p : DictionaryBatchTree) (ps : List DictionaryBatchTree) → CanAddAll s (p ∷ ps) → CanAddAll (state_after s p) ps
others_of s p ps can =
    let same : (state_after s p).picked ≡ s.picked = still_picked s p (first_of s p ps can) in
    record {
      back = can.back.1;
      ok = can.ok.1;
      named = subst (λ (q : ProjectedSchemaModel). AllByRecursion (λ p. IsNamed q.seen.named p.1) ps) (sym same) can.named.1;
      none = others_accept (dictionary_batch_error s p) (dictionary_batches_error (state_after s p) ps) can.none;
    }

-- the first of messages in bytes
record IsSplit (m : FileMessage) (ms : List FileMessage) (front behind whole : List ℕ) : Type 0 where
  here : whole ≡ front ++ (file_message_bytes m ++ (flat_map file_message_bytes ms ++ behind))
  next : whole ≡ (front ++ file_message_bytes m) ++ (flat_map file_message_bytes ms ++ behind)
  position : length front + length (file_message_bytes m) ≡ length (front ++ file_message_bytes m)

split_at : (m : FileMessage) (ms : List FileMessage) (front behind whole : List ℕ) → whole ≡ front ++ (flat_map file_message_bytes (m ∷ ms) ++ behind) → IsSplit m ms front behind whole
split_at m ms front behind whole e =
    let rest : List ℕ = flat_map file_message_bytes ms ++ behind in
    let split : flat_map file_message_bytes (m ∷ ms) ++ behind ≡ file_message_bytes m ++ rest = ap (λ (l : List ℕ). l ++ behind) (flat_map-cons file_message_bytes m ms) ∙ append_assoc (file_message_bytes m) (flat_map file_message_bytes ms) behind in
    let here : whole ≡ front ++ (file_message_bytes m ++ rest) = e ∙ ap (λ (l : List ℕ). front ++ l) split in
    record { here = here; next = here ∙ sym (append_assoc front (file_message_bytes m) rest); position = sym (length-append front (file_message_bytes m)) }

-- the dictionary batches lead to the state after them
puts_at_blocks : (ps : List DictionaryBatchTree) (b : RecordBatchTree) (parts : List FileMessage) (s : StateTree) (blocks : List Block) (front behind whole : List ℕ) → CompressesMessages (messages_of ps b) parts → CanAddAll s ps → whole ≡ front ++ (flat_map file_message_bytes parts ++ behind)
    → dictionaries_at s whole ((message_blocks (length front) parts).dictionaries ++ blocks) ≡ dictionaries_at (after state_after s ps) whole blocks
unfolding message_blocks
puts_at_blocks [] b [] s blocks front behind whole are can e = absurd are
puts_at_blocks [] b (m ∷ []) s blocks front behind whole are can e =
    let block : Block = block_at (length front) m.head m.body in
    ap (λ (k : Bool). dictionaries_at s whole ((with_first_block k block no_blocks).dictionaries ++ blocks)) (batch_kind b m are.0)
puts_at_blocks [] b (m ∷ (n ∷ parts)) s blocks front behind whole are can e = absurd are.1
puts_at_blocks (p ∷ ps) b [] s blocks front behind whole are can e = absurd are
puts_at_blocks (p ∷ ps) b (m ∷ parts) s blocks front behind whole are can e =
    let t : StateTree = state_after s p in
    let one : CompressesMessage (dictionary_message_of p) m = are.0 in
    let split : IsSplit m parts front behind whole = split_at m parts front behind whole e in
    let block : Block = block_at (length front) m.head m.body in
    let later : Blocks = message_blocks (length front + length (file_message_bytes m)) parts in
    let found : block_in DictionaryBatch s.picked whole block ≡ Ok one.again.parts =
    message_found DictionaryBatch s.picked (file_message_bytes m) m.head m.body one.again.parts front (flat_map file_message_bytes parts ++ behind) whole (dictionary_part_is p m one) one.again.kind (length-append m.head m.body) split.here in
    let known : dictionary_in true s one.again.parts ≡ Ok t = compressed_known s p m (first_of s p ps can) one in
    ap (λ (k : Bool). dictionaries_at s whole ((with_first_block k block later).dictionaries ++ blocks)) (dictionary_kind p m one)
    ∙ next_at_block s t one.again.parts whole block (later.dictionaries ++ blocks) found known
    ∙ ap (λ (n : ℕ). dictionaries_at t whole ((message_blocks n parts).dictionaries ++ blocks)) split.position
    ∙ puts_at_blocks ps b parts t blocks (front ++ file_message_bytes m) behind whole are.1 (others_of s p ps can) split.next

-- a record batch is read in the last state
batch_at_end : (end : StateTree) (b : RecordBatchTree) (m : FileMessage) (front behind whole : List ℕ) → IsAtEnd end b → BatchIsBack b → AllByRecursion IsArray b.columns → CompressesMessage (batch_message_of b) m → whole ≡ front ++ (file_message_bytes m ++ behind)
    → block_batch_in end whole (block_at (length front) m.head m.body) ≡ Ok (decoded_record_batch end.known b)
batch_at_end end b m front behind whole ok back arrays one e =
    let again = one.again in
    let found : block_in RecordBatch end.picked whole (block_at (length front) m.head m.body) ≡ Ok again.parts =
    message_found RecordBatch end.picked (file_message_bytes m) m.head m.body again.parts front behind whole (batch_part_is b m one) again.kind (length-append m.head m.body) e in
    let alike : record_batch_in end again.parts ≡ record_batch_in end back.parts =
    batch_alike b one.buffers back.parts again.parts end one.written arrays back.same_batch back.same_body again.same_batch again.same_body ok.reads.whole.steps ok.reads.whole.arrays ok.reads.columns in
    let plain : record_batch_in end back.parts ≡ Ok (decoded_record_batch end.known b) = ap (record_batch_in end) (same_batch b back ok.again) ∙ ok.again.columns end ok.reads in
    ap (λ (r : Result MessageModel IpcReadError). r >>= record_batch_in end) found ∙ alike ∙ plain

batch_in_blocks : (ps : List DictionaryBatchTree) (b : RecordBatchTree) (parts : List FileMessage) (end : StateTree) (batches : List RecordBatchTree) (blocks : List Block) (front behind whole : List ℕ) → CompressesMessages (messages_of ps b) parts → IsAtEnd end b → BatchIsBack b → AllByRecursion IsArray b.columns
    → whole ≡ front ++ (flat_map file_message_bytes parts ++ behind) → batches_at end whole blocks ≡ Ok batches → batches_at end whole ((message_blocks (length front) parts).batches ++ blocks) ≡ Ok (decoded_record_batch end.known b ∷ batches)
unfolding message_blocks
batch_in_blocks [] b [] end batches blocks front behind whole are ok back arrays e others = absurd are
batch_in_blocks [] b (m ∷ []) end batches blocks front behind whole are ok back arrays e others =
    let block : Block = block_at (length front) m.head m.body in
    let split : IsSplit m [] front behind whole = split_at m [] front behind whole e in
    ap (λ (k : Bool). batches_at end whole ((with_first_block k block no_blocks).batches ++ blocks)) (batch_kind b m are.0)
    ∙ batch_at_block end (decoded_record_batch end.known b) batches whole block blocks (batch_at_end end b m front behind whole ok back arrays are.0 split.here) others
batch_in_blocks [] b (m ∷ (n ∷ parts)) end batches blocks front behind whole are ok back arrays e others = absurd are.1
batch_in_blocks (p ∷ ps) b [] end batches blocks front behind whole are ok back arrays e others = absurd are
batch_in_blocks (p ∷ ps) b (m ∷ parts) end batches blocks front behind whole are ok back arrays e others =
    let block : Block = block_at (length front) m.head m.body in
    let split : IsSplit m parts front behind whole = split_at m parts front behind whole e in
    let later : Blocks = message_blocks (length front + length (file_message_bytes m)) parts in
    ap (λ (k : Bool). batches_at end whole ((with_first_block k block later).batches ++ blocks)) (dictionary_kind p m are.0)
    ∙ ap (λ (n : ℕ). batches_at end whole ((message_blocks n parts).batches ++ blocks)) split.position
    ∙ batch_in_blocks ps b parts end batches blocks (front ++ file_message_bytes m) behind whole are.1 ok back arrays split.next others

-- ---- a record batch of a file that has no error

each_accepted : (s : StateTree) (ps : List DictionaryBatchTree) → dictionary_batches_error s ps ≡ None → each_error dictionary_error ps ≡ None
each_accepted s [] none = refl
each_accepted s (p ∷ ps) none =
    let one : dictionary_batch_error s p ≡ None = first_accepts (dictionary_batch_error s p) (dictionary_batches_error (state_after s p) ps) none in
    let block : dictionary_block_error p ≡ None = first_accepts (dictionary_block_error p) (unreadable_error (state_with_dictionary s p)) one in
    both_accepted (dictionary_error p) (each_error dictionary_error ps) (first_accepts (dictionary_error p) (block_length_error (dictionary_head p)) block) (each_accepted (state_after s p) ps (others_accept (dictionary_batch_error s p) (dictionary_batches_error (state_after s p) ps) none))

columns_then : (are : Bool) (r : Option IpcWriteError) → (if are then r else Some Columns) ≡ None → r ≡ None
columns_then true r h = h
columns_then false r h = cc

-- it can be compressed
pub record IsPlainFilePart (emitted : DictionaryEntries) (b : RecordBatchTree) : Type 0 where
  pub dictionaries : AllByRecursion DictionaryIsBack (file_dictionary_batches emitted b)
  pub batch : BatchIsBack b

pub is_plain_file_part : (types : List TypeTree) (f : FileState) (b : RecordBatchTree) → AllByRecursion (λ p. FitsSigned w64 p.1.0) (file_dictionary_batches f.emitted b) → file_batch_error types f b ≡ None → IsPlainFilePart f.emitted b
is_plain_file_part types f b ids none =
    let ps : List DictionaryBatchTree = file_dictionary_batches f.emitted b in
    let replaced : Option IpcWriteError = replaced_error f.emitted (pending_by f.emitted b) in
    let parts : Option IpcWriteError = part_error f.state ps b in
    let part : parts ≡ None = others_accept replaced parts (columns_then (spec_are_columns types b.rows b.columns) (or_error replaced parts) none) in
    let each : each_error dictionary_error ps ≡ None = each_accepted f.state ps (first_accepts (dictionary_batches_error f.state ps) (record_batch_block_error b) part) in
    let last : record_batch_error b ≡ None = first_accepts (record_batch_error b) (block_length_error (batch_head b)) (others_accept (dictionary_batches_error f.state ps) (record_batch_block_error b) part) in
    record { dictionaries = each_is_back ps ids each; batch = batch_is_back b last }

pub file_part_plain : (emitted : DictionaryEntries) (b : RecordBatchTree) → IsPlainFilePart emitted b → ArePlainMessages (messages_of (file_dictionary_batches emitted b) b) (encoded_batch file_dictionary_batches emitted b)
unfolding encoded_batch
file_part_plain emitted b part = plain_messages (file_dictionary_batches emitted b) b part.dictionaries part.batch

-- dictionary batches have the ids of the pending dictionaries
ids_for : (o : Option Layout) (e : ℤ × Layout) → FitsSigned w64 e.0 → AllByRecursion (λ p. FitsSigned w64 p.1.0) (batches_for o e)
ids_for None e h = (h, tt)
ids_for (Some d) e h = by (len e.1 == len d)
  where
    by : (b : Bool) → AllByRecursion (λ (p : DictionaryBatchTree). FitsSigned w64 p.1.0) (if b then [] else (true, (e.0, spec_delta_values e.1 (len d))) ∷ [])
    by true = tt
    by false = (h, tt)

pub ids_of_batches : (emitted es : DictionaryEntries) → AllByRecursion (λ e. FitsSigned w64 e.0) es → AllByRecursion (λ p. FitsSigned w64 p.1.0) (spec_dictionary_batches emitted es)
ids_of_batches emitted [] fit = tt
ids_of_batches emitted (e ∷ es) fit = all_both (λ p. FitsSigned w64 p.1.0) (batches_for (entry_at emitted e.0) e) (spec_dictionary_batches emitted es) (ids_for (entry_at emitted e.0) e fit.0) (ids_of_batches emitted es fit.1)

-- one more record batch
pub push_batch : (emitted : DictionaryEntries) (bs : List RecordBatchTree) (b : RecordBatchTree) (parts more : List FileMessage) → AreCompressedFileBatches emitted bs parts → IsCompressedFileBatch (emitted_after_all emitted bs) b more → AreCompressedFileBatches emitted (bs ++ b ∷ []) (parts ++ more)
push_batch emitted [] b parts more are is = (more, [], is, refl, ap (λ (x : List FileMessage). x ++ more) are ∙ sym (append-nil more))
push_batch emitted (c ∷ bs) b parts more are is =
    (are.0, are.1 ++ more, are.2, push_batch (emitted_after emitted c) bs b are.1 more are.3 is, ap (λ (x : List FileMessage). x ++ more) are.4 ∙ append_assoc are.0 are.1 more)

-- new and more are old and blocks with these record batches at their ends
pub record HasFileBatches (position : ℕ) (emitted : DictionaryEntries) (bs : List RecordBatchTree) (old new : List ℕ) (blocks : Blocks) : Type 0 where
  pub parts : List FileMessage
  pub are : AreCompressedFileBatches emitted bs parts
  pub bytes : new ≡ old ++ flat_map file_message_bytes parts
  pub blocks_are : blocks ≡ message_blocks position parts

pub no_file_batches : (position : ℕ) (emitted : DictionaryEntries) (old new : List ℕ) (blocks : Blocks) → new ≡ old → blocks ≡ no_blocks → HasFileBatches position emitted [] old new blocks
unfolding message_blocks
no_file_batches position emitted old new blocks same none = record { parts = []; are = refl; bytes = same ∙ sym (append-nil old); blocks_are = none }

pub file_batches_push : (emitted now : DictionaryEntries) (bs more : List RecordBatchTree) (b : RecordBatchTree) (old mid new : List ℕ) (blocks later : Blocks) → more ≡ bs ++ b ∷ [] → now ≡ emitted_after_all emitted bs → HasFileBatches (length old) emitted bs old mid blocks → AppendsCompressedFileBatch now b mid blocks new later
    → HasFileBatches (length old) emitted more old new later
file_batches_push emitted now bs more b old mid new blocks later pushed last so_far one =
    let first : List FileMessage = so_far.parts in
    let parts : List FileMessage = one.0 in
    let is : IsCompressedFileBatch (emitted_after_all emitted bs) b parts = subst (λ (x : DictionaryEntries). IsCompressedFileBatch x b parts) last one.1 in
    let bytes : List ℕ = flat_map file_message_bytes first in
    let position : length mid ≡ length old + length bytes = ap length so_far.bytes ∙ length-append old bytes in
    record {
      parts = first ++ parts;
      are = subst (λ (x : List RecordBatchTree). AreCompressedFileBatches emitted x (first ++ parts)) (sym pushed) (push_batch emitted bs b first parts so_far.are is);
      bytes = one.2.0 ∙ ap (λ (x : List ℕ). x ++ flat_map file_message_bytes parts) so_far.bytes ∙ append_assoc old bytes (flat_map file_message_bytes parts) ∙ ap (λ (x : List ℕ). old ++ x) (sym (flat_map-append file_message_bytes first parts));
      blocks_are = one.2.1 ∙ (λ w. both_blocks (so_far.blocks_are w) (message_blocks (position w) parts)) ∙ sym (blocks_both (length old) first parts);
    }

can_add_all : (f : FileState) (b : RecordBatchTree) → IsPlainFilePart f.emitted b → BatchRoundTrips (file_dictionary_batches f.emitted b) b → IsBehindFile f → file_batch_error (column_types f.state.picked.schema) f b ≡ None → CanAddAll f.state (file_dictionary_batches f.emitted b)
can_add_all f b part ok at none =
    let s : StateTree = f.state in
    let fields = s.picked.schema.fields in
    let es : DictionaryEntries = pending_by f.emitted b in
    let next : IsNext f b = part_next f b ok at none in
    let each : AllByRecursion (IsNamed (seen_of_fields fields).named) es = columns_needed_of (IsNamed (seen_of_fields fields).named) f.emitted 0 b.columns next.named.each in
    let here : AllByRecursion (IsNamed s.picked.seen.named) es = subst (λ (seen : DictionaryTypesModel). AllByRecursion (IsNamed seen.named) es) (sym at.whole.seen) each in
    record {
      back = part.dictionaries;
      ok = ok.dictionaries;
      named = puts_named s.picked.seen.named f.emitted es here;
      none = (is_accepted (column_types s.picked.schema) f b none).puts;
    }

-- ---- all record batches

-- bytes with messages, of which the first are those of a record batch
record IsSplitAfter (first others : List FileMessage) (front behind whole : List ℕ) : Type 0 where
  here : whole ≡ front ++ (flat_map file_message_bytes first ++ (flat_map file_message_bytes others ++ behind))
  next : whole ≡ (front ++ flat_map file_message_bytes first) ++ (flat_map file_message_bytes others ++ behind)
  position : length front + length (flat_map file_message_bytes first) ≡ length (front ++ flat_map file_message_bytes first)

split_after : (first others parts : List FileMessage) (front behind whole : List ℕ) → parts ≡ first ++ others → whole ≡ front ++ (flat_map file_message_bytes parts ++ behind) → IsSplitAfter first others front behind whole
split_after first others parts front behind whole both e =
    let some : List ℕ = flat_map file_message_bytes first in
    let rest : List ℕ = flat_map file_message_bytes others ++ behind in
    let split : flat_map file_message_bytes parts ++ behind ≡ some ++ rest = ap (λ (xs : List FileMessage). flat_map file_message_bytes xs ++ behind) both ∙ ap (λ (l : List ℕ). l ++ behind) (flat_map-append file_message_bytes first others) ∙ append_assoc some (flat_map file_message_bytes others) behind in
    let here : whole ≡ front ++ (some ++ rest) = e ∙ ap (λ (l : List ℕ). front ++ l) split in
    record { here = here; next = here ∙ sym (append_assoc front some rest); position = sym (length-append front some) }

-- the blocks of all of them
blocks_split : (first others parts : List FileMessage) (front : List ℕ) → parts ≡ first ++ others → message_blocks (length front) parts ≡ both_blocks (message_blocks (length front) first) (message_blocks (length (front ++ flat_map file_message_bytes first)) others)
blocks_split first others parts front both =
    ap (message_blocks (length front)) both ∙ blocks_both (length front) first others ∙ ap (λ (n : ℕ). both_blocks (message_blocks (length front) first) (message_blocks n others)) (sym (length-append front (flat_map file_message_bytes first)))

dictionaries_again : (types : List TypeTree) (f : FileState) (bs : List RecordBatchTree) (parts : List FileMessage) (front behind whole : List ℕ) → types ≡ column_types f.state.picked.schema → BatchesRoundTrip file_dictionary_batches f.emitted bs → IsBehindFile f → file_batches_error types f bs ≡ None
    → AreCompressedFileBatches f.emitted bs parts → whole ≡ front ++ (flat_map file_message_bytes parts ++ behind) → dictionaries_at f.state whole (message_blocks (length front) parts).dictionaries ≡ Ok (after file_state_after f bs).state
unfolding message_blocks
dictionaries_again types f [] parts front behind whole typed ok at none are e = ap (λ (xs : List FileMessage). dictionaries_at f.state whole (message_blocks (length front) xs).dictionaries) are ∙ no_dictionaries f.state whole
dictionaries_again types f (b ∷ bs) parts front behind whole typed ok at none are e =
    let first : List FileMessage = are.0 in
    let others : List FileMessage = are.1 in
    let g : FileState = file_state_after f b in
    let split : IsSplitAfter first others front behind whole = split_after first others parts front behind whole are.4 e in
    let one : file_batch_error types f b ≡ None = first_accepts (file_batch_error types f b) (file_batches_error types g bs) none in
    let here : file_batch_error (column_types f.state.picked.schema) f b ≡ None = subst (λ (ts : List TypeTree). file_batch_error ts f b ≡ None) typed one in
    let next : IsNext f b = part_next f b ok.0 at here in
    let still : types ≡ column_types g.state.picked.schema = typed ∙ ap (λ (p : ProjectedSchemaModel). column_types p.schema) (sym next.later.picked) in
    let can : CanAddAll f.state (file_dictionary_batches f.emitted b) = can_add_all f b (is_plain_file_part types f b are.2.ids one) ok.0 at here in
    let later : Blocks = message_blocks (length (front ++ flat_map file_message_bytes first)) others in
    ap (λ (x : Blocks). dictionaries_at f.state whole x.dictionaries) (blocks_split first others parts front are.4)
    ∙ puts_at_blocks (file_dictionary_batches f.emitted b) b first f.state later.dictionaries front (flat_map file_message_bytes others ++ behind) whole are.2.messages can split.here
    ∙ dictionaries_again types g bs others (front ++ flat_map file_message_bytes first) behind whole still ok.1 next.at (others_accept (file_batch_error types f b) (file_batches_error types g bs) none) are.3 split.next

-- record batches that were written can be compressed
abbrev ArePlain : DictionaryEntries → List RecordBatchTree → Type 0
ArePlain emitted [] = Unit {0}
ArePlain emitted (b ∷ bs) = BatchIsBack b × ArePlain (emitted_after emitted b) bs

are_plain : (types : List TypeTree) (f : FileState) (bs : List RecordBatchTree) (parts : List FileMessage) → AreCompressedFileBatches f.emitted bs parts → file_batches_error types f bs ≡ None → ArePlain f.emitted bs
are_plain types f [] parts are none = tt
are_plain types f (b ∷ bs) parts are none =
    let g : FileState = file_state_after f b in
    ((is_plain_file_part types f b are.2.ids (first_accepts (file_batch_error types f b) (file_batches_error types g bs) none)).batch, are_plain types g bs are.1 are.3 (others_accept (file_batch_error types f b) (file_batches_error types g bs) none))

batches_again : (end : StateTree) (emitted : DictionaryEntries) (bs : List RecordBatchTree) (parts : List FileMessage) (front behind whole : List ℕ) → AllByRecursion (IsAtEnd end) bs → ArePlain emitted bs → BatchesRoundTrip file_dictionary_batches emitted bs → AreCompressedFileBatches emitted bs parts
    → whole ≡ front ++ (flat_map file_message_bytes parts ++ behind) → batches_at end whole (message_blocks (length front) parts).batches ≡ Ok (map (decoded_record_batch end.known) bs)
unfolding message_blocks
batches_again end emitted [] parts front behind whole ok plain trip are e = ap (λ (xs : List FileMessage). batches_at end whole (message_blocks (length front) xs).batches) are ∙ no_batches end whole
batches_again end emitted (b ∷ bs) parts front behind whole ok plain trip are e =
    let first : List FileMessage = are.0 in
    let others : List FileMessage = are.1 in
    let split : IsSplitAfter first others front behind whole = split_after first others parts front behind whole are.4 e in
    let later : Blocks = message_blocks (length (front ++ flat_map file_message_bytes first)) others in
    let rest = batches_again end (emitted_after emitted b) bs others (front ++ flat_map file_message_bytes first) behind whole ok.1 plain.1 trip.1 are.3 split.next in
    ap (λ (x : Blocks). batches_at end whole x.batches) (blocks_split first others parts front are.4)
    ∙ batch_in_blocks (file_dictionary_batches emitted b) b first end (map (decoded_record_batch end.known) bs) later.batches front (flat_map file_message_bytes others ++ behind) whole are.2.messages ok.0 plain.0 trip.0.fits split.here rest

-- ---- files

-- each message has a head of 8 bytes or more
heads_of : (ps : List DictionaryBatchTree) (b : RecordBatchTree) (parts : List FileMessage) → CompressesMessages (messages_of ps b) parts → AllByRecursion HasHead parts
heads_of [] b [] are = tt
heads_of [] b (m ∷ []) are = (omega (arith, (batch_part_is b m are.0).head_long), tt)
heads_of [] b (m ∷ (n ∷ parts)) are = absurd are.1
heads_of (p ∷ ps) b [] are = tt
heads_of (p ∷ ps) b (m ∷ parts) are = (omega (arith, (dictionary_part_is p m are.0).head_long), heads_of ps b parts are.1)

heads_both : (xs ys : List FileMessage) → AllByRecursion HasHead xs → AllByRecursion HasHead ys → AllByRecursion HasHead (xs ++ ys)
heads_both [] ys some more = more
heads_both (x ∷ xs) ys some more = (some.0, heads_both xs ys some.1 more)

all_heads : (emitted : DictionaryEntries) (bs : List RecordBatchTree) (parts : List FileMessage) → AreCompressedFileBatches emitted bs parts → AllByRecursion HasHead parts
all_heads emitted [] parts are = subst (AllByRecursion HasHead) (sym are) tt
all_heads emitted (b ∷ bs) parts are =
    subst (AllByRecursion HasHead) (sym are.4) (heads_both are.0 are.1 (heads_of (file_dictionary_batches emitted b) b are.0 are.2.messages) (all_heads (emitted_after emitted b) bs are.1 are.3))

pub messages_inside : (s : SchemaModel) (bs : List RecordBatchTree) (parts : List FileMessage) → AreCompressedFileBatches [] bs parts → spec_blocks_before (8 + length (file_inner s parts)) ((footer_of_messages s parts).dictionaries ++ (footer_of_messages s parts).batches) ≡ true
messages_inside s bs parts are =
    blocks_fit (8 + length (schema_message s)) (8 + length (file_inner s parts)) parts (all_heads [] bs parts are) (omega arith)
    (omega (arith, length-append (schema_message s) (flat_map file_message_bytes parts ++ end_of_stream), length-append (flat_map file_message_bytes parts) end_of_stream))

-- without compression there is no error either
pub plain_accepts : (types : List TypeTree) (f : FileState) (bs : List RecordBatchTree) → compressed_file_batches_error types f bs ≡ None → file_batches_error types f bs ≡ None
plain_accepts types f [] none = refl
plain_accepts types f (b ∷ bs) none =
    let g : FileState = file_state_after f b in
    let compressed : Option IpcWriteError = compressed_file_batch_error types f b in
    let others : Option IpcWriteError = compressed_file_batches_error types g bs in
    let one : compressed ≡ None = first_accepts compressed others none in
    let plain : file_batch_error types f b ≡ None = first_accepts (file_batch_error types f b) (compressed_messages_error (messages_of (file_dictionary_batches f.emitted b) b)) one in
    both_accepted (file_batch_error types f b) (file_batches_error types g bs) plain (plain_accepts types g bs (others_accept compressed others none))

pub compressed_file_round_trips : (s : SchemaModel) (bs : List RecordBatchTree) (parts : List FileMessage) → AreCompressedFileBatches [] bs parts → projected_footer_in all (file_of_messages s parts) ≡ Ok (projected_footer_of_all (footer_of_messages s parts)) → check_fields s.fields ≡ Ok tt
    → compressed_file_batches_error (column_types s) (file_state_start s) bs ≡ None → BatchesRoundTrip file_dictionary_batches [] bs → file_in (file_of_messages s parts) ≡ Ok (decoded_file s bs)
unfolding projected_file_in file_reader_in
compressed_file_round_trips s bs parts are footer form compressed ok =
    let end : StateTree = (file_state_end s bs).state in
    let whole : List ℕ = file_of_messages s parts in
    let front : List ℕ = file_head ++ schema_message s in
    let behind : List ℕ = end_of_stream ++ file_end (footer_of_messages s parts) in
    let none : file_batches_error (column_types s) (file_state_start s) bs ≡ None = plain_accepts (column_types s) (file_state_start s) bs compressed in
    let all_at : AreAtEnd (file_state_start s) end bs = at_end s bs form none ok in
    let regrouped : whole ≡ front ++ (flat_map file_message_bytes parts ++ behind) = unfold file_of_messages in simp append_assoc in
    let position : 8 + length (schema_message s) ≡ length front = sym (length-append file_head (schema_message s)) in
    let dictionaries = ap (λ (n : ℕ). dictionaries_at (file_state_start s).state whole (message_blocks n parts).dictionaries) position ∙ dictionaries_again (column_types s) (file_state_start s) bs parts front behind whole refl ok (starts_file s form) none are regrouped in
    let batches = ap (λ (n : ℕ). batches_at end whole (message_blocks n parts).batches) position ∙ batches_again end [] bs parts front behind whole all_at.each (are_plain (column_types s) (file_state_start s) bs parts are none) ok are regrouped in
    let read : file_in whole ≡ Ok (record { schema = end.picked.schema; batches = map (decoded_record_batch end.known) bs }) = rw (footer, dictionaries, batches) refl in
    read ∙ ap (λ (p : ProjectedSchemaModel). Ok (record { schema = p.schema; batches = map (decoded_record_batch end.known) bs })) all_at.later.picked

-- ---- a file in memory

-- new is old with the messages of a file, and these are their blocks
pub record HasFileMessages (s : SchemaModel) (bs : List RecordBatchTree) (old new : List ℕ) (blocks : Blocks) : Type 0 where
  pub parts : List FileMessage
  pub are : AreCompressedFileBatches [] bs parts
  pub bytes : new ≡ old ++ file_inner s parts
  pub blocks_are : blocks ≡ message_blocks (length old + length (schema_message s)) parts

pub file_messages_end : (s : SchemaModel) (bs : List RecordBatchTree) (old first out new : List ℕ) (blocks : Blocks) → first ≡ old ++ schema_message s → HasFileBatches (length first) [] bs first out blocks → new ≡ out ++ end_of_stream → HasFileMessages s bs old new blocks
file_messages_end s bs old first out new blocks headed has ended =
    let bytes : List ℕ = flat_map file_message_bytes has.parts in
    let position : length first ≡ length old + length (schema_message s) = ap length headed ∙ length-append old (schema_message s) in
    let inner : ((old ++ schema_message s) ++ bytes) ++ end_of_stream ≡ old ++ (schema_message s ++ (bytes ++ end_of_stream)) =
    append_assoc (old ++ schema_message s) bytes end_of_stream ∙ append_assoc old (schema_message s) (bytes ++ end_of_stream) in
    record {
      parts = has.parts;
      are = has.are;
      bytes = ended ∙ ap (λ (x : List ℕ). x ++ end_of_stream) (has.bytes ∙ ap (λ (x : List ℕ). x ++ bytes) headed) ∙ inner;
      blocks_are = has.blocks_are ∙ ap (λ (n : ℕ). message_blocks n has.parts) position;
    }

-- with the footer it is a file
pub record IsWrittenFile (s : SchemaModel) (bs : List RecordBatchTree) (new : List ℕ) (blocks : Blocks) : Type 0 where
  pub parts : List FileMessage
  pub are : AreCompressedFileBatches [] bs parts
  pub footer : footer_with_blocks s blocks ≡ footer_of_messages s parts
  pub bytes : new ≡ file_of_messages s parts

-- the footer is that of the messages
pub footer_is : (s : SchemaModel) (bs : List RecordBatchTree) (first out : List ℕ) (blocks : Blocks) → first ≡ file_head → (has : HasFileMessages s bs first out blocks) → footer_with_blocks s blocks ≡ footer_of_messages s has.parts
footer_is s bs first out blocks headed has =
    let position : length first + length (schema_message s) ≡ 8 + length (schema_message s) = ap (λ (x : List ℕ). length x + length (schema_message s)) headed in
    ap (footer_with_blocks s) (has.blocks_are ∙ ap (λ (n : ℕ). message_blocks n has.parts) position)

pub file_written : (s : SchemaModel) (bs : List RecordBatchTree) (first out new : List ℕ) (blocks : Blocks) → first ≡ file_head → HasFileMessages s bs first out blocks → new ≡ out ++ file_end (footer_with_blocks s blocks) → IsWrittenFile s bs new blocks
unfolding file_of_messages
file_written s bs first out new blocks headed has ended =
    let footer : footer_with_blocks s blocks ≡ footer_of_messages s has.parts = footer_is s bs first out blocks headed has in
    let tail : List ℕ = file_end (footer_of_messages s has.parts) in
    record {
      parts = has.parts;
      are = has.are;
      footer = footer;
      bytes = ended ∙ (λ w. out ++ file_end (footer w)) ∙ ap (λ (x : List ℕ). x ++ tail) (has.bytes ∙ ap (λ (x : List ℕ). x ++ file_inner s has.parts) headed) ∙ append_assoc file_head (file_inner s has.parts) tail;
    }

footer_again : (s : SchemaModel) (bs : List RecordBatchTree) (parts : List FileMessage) → AreCompressedFileBatches [] bs parts → FooterRoundTrips (footer_of_messages s parts) → projected_footer_in all (file_of_messages s parts) ≡ Ok (projected_footer_of_all (footer_of_messages s parts))
unfolding file_of_messages
footer_again s bs parts are back = back (file_inner s parts) (messages_inside s bs parts are)

-- a file that was written is read as the file without compression
pub file_back : (s : SchemaModel) (bs : List RecordBatchTree) (parts : List FileMessage) → AreCompressedFileBatches [] bs parts → FooterRoundTrips (footer_of_messages s parts) → check_fields s.fields ≡ Ok tt → compressed_file_batches_error (column_types s) (file_state_start s) bs ≡ None
    → BatchesRoundTrip file_dictionary_batches [] bs → file_in (file_of_messages s parts) ≡ Ok (decoded_file s bs)
file_back s bs parts are back form compressed ok = compressed_file_round_trips s bs parts are (footer_again s bs parts are back) form compressed ok

-- ---- the footer is as long as without compression

-- so many blocks of dictionary batches and of record batches
record HaveCounts (blocks : Blocks) (dictionaries batches : ℕ) : Type 0 where
  dictionaries_are : length blocks.dictionaries ≡ dictionaries
  batches_are : length blocks.batches ≡ batches

-- of a record batch one, and one of each of its dictionary batches
part_counts : (ps : List DictionaryBatchTree) (b : RecordBatchTree) (parts : List FileMessage) (position : ℕ) → CompressesMessages (messages_of ps b) parts → HaveCounts (message_blocks position parts) (length ps) 1
unfolding message_blocks
part_counts [] b [] position are = absurd are
part_counts [] b (m ∷ []) position are =
    subst (λ (k : Bool). HaveCounts (with_first_block k (block_at position m.head m.body) no_blocks) 0 1) (sym (batch_kind b m are.0)) (record { dictionaries_are = refl; batches_are = refl })
part_counts [] b (m ∷ (n ∷ parts)) position are = absurd are.1
part_counts (p ∷ ps) b [] position are = absurd are
part_counts (p ∷ ps) b (m ∷ parts) position are =
    let later : Blocks = message_blocks (position + length (file_message_bytes m)) parts in
    let rest : HaveCounts later (length ps) 1 = part_counts ps b parts (position + length (file_message_bytes m)) are.1 in
    subst (λ (k : Bool). HaveCounts (with_first_block k (block_at position m.head m.body) later) (suc (length ps)) 1) (sym (dictionary_kind p m are.0)) (record { dictionaries_are = ap suc rest.dictionaries_are; batches_are = rest.batches_are })

-- the blocks without compression
plain_count : (position : ℕ) (ps : List DictionaryBatchTree) → length (dictionary_blocks position ps) ≡ length ps
unfolding dictionary_blocks
plain_count position [] = refl
plain_count position (p ∷ ps) = ap suc (plain_count (position + length (dictionary_bytes p)) ps)

all_counts : (position start : ℕ) (emitted : DictionaryEntries) (bs : List RecordBatchTree) (parts : List FileMessage) → AreCompressedFileBatches emitted bs parts → HaveCounts (message_blocks position parts) (length (blocks_from start emitted bs).dictionaries) (length (blocks_from start emitted bs).batches)
unfolding message_blocks blocks_from
all_counts position start emitted [] parts are = subst (λ (xs : List FileMessage). HaveCounts (message_blocks position xs) 0 0) (sym are) (record { dictionaries_are = refl; batches_are = refl })
all_counts position start emitted (b ∷ bs) parts are =
    let ps : List DictionaryBatchTree = file_dictionary_batches emitted b in
    let first : Blocks = message_blocks position are.0 in
    let next : ℕ = position + length (flat_map file_message_bytes are.0) in
    let later : Blocks = message_blocks next are.1 in
    let behind : ℕ = batch_offset start emitted b + length (batch_bytes b) in
    let plain : Blocks = blocks_from behind (emitted_after emitted b) bs in
    let one : HaveCounts first (length ps) 1 = part_counts ps b are.0 position are.2.messages in
    let rest : HaveCounts later (length plain.dictionaries) (length plain.batches) = all_counts next behind (emitted_after emitted b) bs are.1 are.3 in
    let both : message_blocks position parts ≡ both_blocks first later = ap (message_blocks position) are.4 ∙ blocks_both position are.0 are.1 in
    subst (λ (x : Blocks). HaveCounts x (length (dictionary_blocks start ps ++ plain.dictionaries)) (suc (length plain.batches))) (sym both)
    (record {
      dictionaries_are = length-append first.dictionaries later.dictionaries ∙ (λ w. one.dictionaries_are w + rest.dictionaries_are w) ∙ ap (λ (n : ℕ). n + length plain.dictionaries) (sym (plain_count start ps)) ∙ sym (length-append (dictionary_blocks start ps) plain.dictionaries);
      batches_are = omega (arith, length-append first.batches later.batches, one.batches_are, rest.batches_are);
    })

pub footer_as_long : (s : SchemaModel) (bs : List RecordBatchTree) (parts : List FileMessage) → AreCompressedFileBatches [] bs parts → footer_error (footer_of_messages s parts) ≡ footer_error (written_footer s bs)
footer_as_long s bs parts are =
    let counts = all_counts (8 + length (schema_message s)) (8 + length (schema_message s)) [] bs parts are in
    let long : length (footer_bytes (footer_of_messages s parts)) ≡ length (footer_bytes (written_footer s bs)) = omega (arith, footer_long (footer_of_messages s parts), footer_long (written_footer s bs), counts.dictionaries_are, counts.batches_are) in
    ap (λ (n : ℕ). size_error_if (leb (2 ^ 31) n)) long

-- the footer is refused
pub file_refused : (s : SchemaModel) (bs : List RecordBatchTree) (parts : List FileMessage) (why : IpcWriteError) → AreCompressedFileBatches [] bs parts → schema_error s ≡ None → compressed_file_batches_error (column_types s) (file_state_start s) bs ≡ None
    → forms.IsSchemaWriteError (check_fields s.fields) (length (footer_bytes (footer_of_messages s parts))) why → IsErrorOrMemory (compressed_file_error s bs) why
file_refused s bs parts why are schema batches refused =
    later_refused (schema_error s) (or_error (compressed_file_batches_error (column_types s) (file_state_start s) bs) (footer_error (written_footer s bs))) why schema
    (later_refused (compressed_file_batches_error (column_types s) (file_state_start s) bs) (footer_error (written_footer s bs)) why batches
    (subst (λ (r : Option IpcWriteError). IsErrorOrMemory r why) (footer_as_long s bs parts are) (by refused)))
  where
    never : (read : Result (Unit {0}) IpcWriteError) → read ≡ Ok tt → read ≡ Err why → ⊥
    never read ok bad = cc

    by : forms.IsSchemaWriteError (check_fields s.fields) (length (footer_bytes (footer_of_messages s parts))) why → IsErrorOrMemory (footer_error (footer_of_messages s parts)) why
    by (inl memory) = inl memory
    by (inr (inl reason)) = absurd (never (check_fields s.fields) (fields_formed s schema) reason)
    by (inr (inr (ok, size, long))) =
        let past : leb (2 ^ 31) (length (footer_bytes (footer_of_messages s parts))) ≡ true = le-leb _ _ long in
        inr (rw (past, size) refl)

-- or accepted
pub file_accepted : (s : SchemaModel) (bs : List RecordBatchTree) (parts : List FileMessage) → AreCompressedFileBatches [] bs parts → schema_error s ≡ None → compressed_file_batches_error (column_types s) (file_state_start s) bs ≡ None → length (footer_bytes (footer_of_messages s parts)) < 2 ^ 31 → compressed_file_error s bs ≡ None
file_accepted s bs parts are schema batches small =
    let fits : leb (2 ^ 31) (length (footer_bytes (footer_of_messages s parts))) ≡ false = lt-leb _ _ small in
    let footer : footer_error (footer_of_messages s parts) ≡ None = rw fits refl in
    both_accepted (schema_error s) (or_error (compressed_file_batches_error (column_types s) (file_state_start s) bs) (footer_error (written_footer s bs))) schema
    (both_accepted (compressed_file_batches_error (column_types s) (file_state_start s) bs) (footer_error (written_footer s bs)) batches (sym (footer_as_long s bs parts are) ∙ footer))

pub messages_refused_file : (s : SchemaModel) (bs : List RecordBatchTree) (why : IpcWriteError) → IsErrorOrMemory (compressed_file_messages_error s bs) why → IsErrorOrMemory (compressed_file_error s bs) why
messages_refused_file s bs why (inl memory) = inl memory
messages_refused_file s bs why (inr reason) = inr (by (schema_error s) (compressed_file_batches_error (column_types s) (file_state_start s) bs) (footer_error (written_footer s bs)) reason)
  where
    by : (a b c : Option IpcWriteError) → or_error a b ≡ Some why → or_error a (or_error b c) ≡ Some why
    by (Some x) b c h = h
    by None (Some x) c h = h
    by None None c h = cc
