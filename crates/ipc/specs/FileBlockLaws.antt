-- The blocks of a written file: each is that of its message, and all end before the footer.
use Rattle.std.specs.Prelude.{◌≡◌, ℕ, ◌+◌, ◌≤◌, true, ◌==◌, List, [], ◌∷◌, ◌++◌, map, sum, length, take, drop, Some, Ok, refl}
use Rattle.std.proofs.Common.{leb, sym, ap, ◌∙◌, subst, append_assoc, arith}
use Rattle.std.specs.List.{AllByRecursion, flat_map, list_all}
use Rattle.std.proofs.lemmas.Bool.{le-leb}
use Rattle.std.proofs.lemmas.Bool.Decides.{Decides-eqb}
use Rattle.std.proofs.lemmas.List.{append-nil, length-append, take_at, drop_at}
use Rattle.std.proofs.lemmas.List.Concat.{flat_map-cons}
use Rattle.std.proofs.lemmas.List.Sums.{sum_by-cons}
use Rattle.ipc_flatbuf.specs.Messages.{MessageModel, message_at}
use Rattle.ipc_flatbuf.specs.MessageBytes.{header_tag}
use Rattle.ipc_flatbuf.specs.declared.message.types.MessageKind.{MessageKind}
use Rattle.ipc_schema.specs.ProjectedSchemas.{ProjectedSchemaModel}
use Rattle.ipc_schema.specs.declared.footer.types.Block.{Block}
use Rattle.ipc_schema.specs.Footers.{is_block_before, spec_block_length, spec_blocks_before}
use Rattle.ipc_arrays.specs.NormalizedLaws.{pass_append}
use Rattle.ipc_arrays.specs.Encoding.{columns_body}
use Rattle.ipc.specs.DictionaryEntries.{DictionaryEntries}
use Rattle.ipc.specs.FileDictionaries.{DictionaryBatchTree}
use Rattle.ipc.specs.Streams.{RecordBatchTree}
use Rattle.ipc.specs.Files.{spec_message_in_block, block_in}
use Rattle.ipc.specs.EncodedStreams.{batch_head, batch_bytes, dictionary_head, dictionary_bytes, emitted_after, encoded_batch, encoded_batches, IsMessage, DictionaryRoundTrips, BatchesRoundTrip}
use Rattle.ipc.specs.EncodedFiles.{block_at, written_block, dictionary_blocks, Blocks, batch_offset, file_dictionary_batches, blocks_from}
use Rattle.ipc.specs.EncodedBatches.{none_written, part_long, batches_long}

-- ---- lengths

pub batch_long : (b : RecordBatchTree) → length (batch_bytes b) ≡ length (batch_head b) + length (columns_body b.columns)
unfolding batch_bytes
batch_long b = length-append (batch_head b) (columns_body b.columns)

pub write_long : (p : DictionaryBatchTree) → length (dictionary_bytes p) ≡ length (dictionary_head p) + length (columns_body (p.1.1 ∷ []))
unfolding dictionary_bytes
write_long p = length-append (dictionary_head p) (columns_body (p.1.1 ∷ []))

puts_long : (p : DictionaryBatchTree) (ps : List DictionaryBatchTree) → length (flat_map dictionary_bytes (p ∷ ps)) ≡ length (dictionary_bytes p) + length (flat_map dictionary_bytes ps)
puts_long p ps = ap length (flat_map-cons dictionary_bytes p ps) ∙ length-append (dictionary_bytes p) (flat_map dictionary_bytes ps)

-- ---- all blocks end before a position

-- one block
lies_before : (position end : ℕ) (head body : List ℕ) → 8 ≤ position → 8 ≤ length head → position + length head + length body ≤ end → is_block_before end (block_at position head body) ≡ true
lies_before position end head body le long within =
    let begins : leb 8 position ≡ true = le-leb _ _ le in
    let headed : leb 8 (length head) ≡ true = le-leb _ _ long in
    let ends : leb (position + length head + length body) end ≡ true = le-leb _ _ within in
    rw (begins, headed, ends) refl

puts_before : (position end : ℕ) (ps : List DictionaryBatchTree) → AllByRecursion DictionaryRoundTrips ps → 8 ≤ position → position + length (flat_map dictionary_bytes ps) ≤ end → list_all (is_block_before end) (dictionary_blocks position ps) ≡ true
unfolding dictionary_blocks
puts_before position end [] ok le within = refl
puts_before position end (p ∷ ps) ok le within =
    let long = write_long p in
    let all = puts_long p ps in
    let one = lies_before position end (dictionary_head p) (columns_body (p.1.1 ∷ [])) le (omega (arith, ok.0.message.head_long)) (omega arith) in
    rw (one, puts_before (position + length (dictionary_bytes p)) end ps ok.1 (omega arith) (omega arith)) refl

-- all blocks of record batches and their dictionary batches
record LieBefore (end : ℕ) (blocks : Blocks) : Type 0 where
  dictionaries : list_all (is_block_before end) blocks.dictionaries ≡ true
  batches : list_all (is_block_before end) blocks.batches ≡ true

lie_before : (position end : ℕ) (emitted : DictionaryEntries) (bs : List RecordBatchTree) → BatchesRoundTrip file_dictionary_batches emitted bs → 8 ≤ position → position + length (encoded_batches file_dictionary_batches emitted bs) ≤ end → LieBefore end (blocks_from position emitted bs)
unfolding blocks_from
lie_before position end emitted [] ok le within = record { dictionaries = refl; batches = refl }
lie_before position end emitted (b ∷ bs) ok le within =
    let ps : List DictionaryBatchTree = file_dictionary_batches emitted b in
    let here : ℕ = batch_offset position emitted b in
    let next : ℕ = here + length (batch_bytes b) in
    let long = batch_long b in
    let part = part_long file_dictionary_batches emitted b in
    let all = batches_long file_dictionary_batches emitted b bs in
    let puts = puts_before position end ps ok.0.dictionaries le (omega arith) in
    let one = lies_before here end (batch_head b) (columns_body b.columns) (omega arith) (omega (arith, ok.0.batch.message.head_long)) (omega arith) in
    let more = lie_before next end (emitted_after emitted b) bs ok.1 (omega arith) (omega arith) in
    record {
      dictionaries = pass_append (is_block_before end) (dictionary_blocks position ps) (blocks_from next (emitted_after emitted b) bs).dictionaries ∙ rw (puts, more.dictionaries) refl;
      batches = rw (one, more.batches) refl;
    }

-- together they are as long as the bytes written

abbrev total : List Block → ℕ
total blocks = sum (map spec_block_length blocks)

total_more : (b : Block) (blocks : List Block) → total (b ∷ blocks) ≡ spec_block_length b + total blocks
total_more b blocks = sum_by-cons (λ (n : ℕ). n) (spec_block_length b) (map spec_block_length blocks)

total_both : (xs ys : List Block) → total (xs ++ ys) ≡ total xs + total ys
total_both [] ys = omega arith
total_both (x ∷ xs) ys = omega (arith, total_more x (xs ++ ys), total_more x xs, total_both xs ys)

puts_total : (position : ℕ) (ps : List DictionaryBatchTree) → total (dictionary_blocks position ps) ≡ length (flat_map dictionary_bytes ps)
unfolding dictionary_blocks
puts_total position [] = refl
puts_total position (p ∷ ps) =
    let next : ℕ = position + length (dictionary_bytes p) in
    let first = total_more (block_at position (dictionary_head p) (columns_body (p.1.1 ∷ []))) (dictionary_blocks next ps) in
    omega (arith, first, write_long p, puts_long p ps, puts_total next ps)

all_total : (position : ℕ) (emitted : DictionaryEntries) (bs : List RecordBatchTree) → total (blocks_from position emitted bs).dictionaries + total (blocks_from position emitted bs).batches ≡ length (encoded_batches file_dictionary_batches emitted bs)
unfolding blocks_from
all_total position emitted [] = sym (ap length (none_written file_dictionary_batches emitted))
all_total position emitted (b ∷ bs) =
    let ps : List DictionaryBatchTree = file_dictionary_batches emitted b in
    let here : ℕ = batch_offset position emitted b in
    let next : ℕ = here + length (batch_bytes b) in
    let rest : Blocks = blocks_from next (emitted_after emitted b) bs in
    let split = total_both (dictionary_blocks position ps) rest.dictionaries in
    let first = total_more (written_block here b) rest.batches in
    omega (arith, split, first, puts_total position ps, batch_long b, part_long file_dictionary_batches emitted b, batches_long file_dictionary_batches emitted b bs, all_total next (emitted_after emitted b) bs)

pub blocks_fit : (position end : ℕ) (emitted : DictionaryEntries) (bs : List RecordBatchTree) → BatchesRoundTrip file_dictionary_batches emitted bs → 8 ≤ position → position + length (encoded_batches file_dictionary_batches emitted bs) ≤ end → spec_blocks_before end ((blocks_from position emitted bs).dictionaries ++ (blocks_from position emitted bs).batches) ≡ true
blocks_fit position end emitted bs ok le within =
    let blocks : Blocks = blocks_from position emitted bs in
    let before = lie_before position end emitted bs ok le within in
    let each : list_all (is_block_before end) (blocks.dictionaries ++ blocks.batches) ≡ true = pass_append (is_block_before end) blocks.dictionaries blocks.batches ∙ rw (before.dictionaries, before.batches) refl in
    let together : leb (total (blocks.dictionaries ++ blocks.batches)) end ≡ true = le-leb _ _ (omega (arith, total_both blocks.dictionaries blocks.batches, all_total position emitted bs)) in
    rw (each, together) refl

-- ---- messages are found by their blocks

same_number : (n m : ℕ) → n ≡ m → (n == m) ≡ true
same_number n m e = (Decides-eqb n m).1 e

pub message_found : (kind : MessageKind) (p : ProjectedSchemaModel) (bytes head body : List ℕ) (m : MessageModel) (front behind whole : List ℕ) → IsMessage bytes head body m → m.root.kind ≡ kind → length bytes ≡ length head + length body → whole ≡ front ++ (bytes ++ behind)
    → block_in kind p whole (block_at (length front) head body) ≡ Ok m
unfolding spec_message_in_block
message_found kind p bytes head body m front behind whole ok is long e =
    let n : ℕ = length head + length body in
    let named : take n (drop (length front) whole) ≡ bytes =
    ap (λ (x : List ℕ). take n (drop (length front) x)) e ∙ ap (take n) (drop_at front (bytes ++ behind) (length front) refl) ∙ take_at bytes behind n long in
    let read : message_at bytes ≡ Ok (Some m, []) = subst (λ (x : List ℕ). message_at x ≡ Ok (Some m, [])) (append-nil bytes) (ok.again []) in
    let same_body = same_number (length m.body) (length body) ok.body_long in
    let kinds = same_number (header_tag m.root.kind) (header_tag kind) (ap header_tag is) in
    rw (named, read, same_body, kinds, ok.version) refl

-- the bytes at a position: the dictionary batches of a record batch, this, and what follows
pub record LiesAt (emitted : DictionaryEntries) (b : RecordBatchTree) (bs : List RecordBatchTree) (position : ℕ) (front behind whole : List ℕ) : Type 0 where
  pub after : List ℕ
  pub puts : whole ≡ front ++ (flat_map dictionary_bytes (file_dictionary_batches emitted b) ++ after)
  pub batch : List ℕ
  pub is : whole ≡ batch ++ (batch_bytes b ++ (encoded_batches file_dictionary_batches (emitted_after emitted b) bs ++ behind))
  pub there : batch_offset position emitted b ≡ length batch
  pub next : List ℕ
  pub more : whole ≡ next ++ (encoded_batches file_dictionary_batches (emitted_after emitted b) bs ++ behind)
  pub further : batch_offset position emitted b + length (batch_bytes b) ≡ length next

pub lies_at : (emitted : DictionaryEntries) (b : RecordBatchTree) (bs : List RecordBatchTree) (position : ℕ) (front behind whole : List ℕ) → position ≡ length front → whole ≡ front ++ (encoded_batches file_dictionary_batches emitted (b ∷ bs) ++ behind) → LiesAt emitted b bs position front behind whole
lies_at emitted b bs position front behind whole at e =
    let puts : List ℕ = flat_map dictionary_bytes (file_dictionary_batches emitted b) in
    let rest : List ℕ = encoded_batches file_dictionary_batches (emitted_after emitted b) bs ++ behind in
    let batch : List ℕ = front ++ puts in
    let next : List ℕ = batch ++ batch_bytes b in
    let split : encoded_batches file_dictionary_batches emitted (b ∷ bs) ++ behind ≡ puts ++ (batch_bytes b ++ rest) = unfold encoded_batches encoded_batch in simp append_assoc in
    let here : whole ≡ front ++ (puts ++ (batch_bytes b ++ rest)) = e ∙ ap (λ (x : List ℕ). front ++ x) split in
    let is : whole ≡ batch ++ (batch_bytes b ++ rest) = here ∙ sym (append_assoc front puts (batch_bytes b ++ rest)) in
    record {
      after = batch_bytes b ++ rest;
      puts = here;
      batch = batch;
      is = is;
      there = omega (arith, at, length-append front puts);
      next = next;
      more = is ∙ sym (append_assoc batch (batch_bytes b) rest);
      further = omega (arith, at, length-append front puts, length-append batch (batch_bytes b));
    }
