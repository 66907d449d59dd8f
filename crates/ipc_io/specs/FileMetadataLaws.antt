-- The numbers of rows in the metadata of a file's record batches are those of the batches that decode.
use Rattle.std.specs.Prelude.{◌≡◌, ◌<◌, ◌≤◌, ◌+◌, ◌++◌, ◌&&◌, ◌==◌, if◌then◌else◌, ℕ, ℤ, pos, negsuc, Bool, true, false, List, [], ◌∷◌, map, length, take, drop, Option, Some, None, Result, Ok, Err, unsigned_abs, refl}
use Rattle.std.proofs.Common.{leb, sym, ap, subst, ◌∙◌, append_assoc, arith}
use Rattle.std.specs.List.{list_all}
use Rattle.std.specs.Int.{w32, from_le_bytes}
use Rattle.std.proofs.lemmas.Bool.{le-leb, leb-true, eqb-true, eq-eqb}
use Rattle.std.proofs.lemmas.Bool.Decides.{Decides-eqb}
use Rattle.std.proofs.lemmas.List.{append-nil, length-append, length-take-le, length-drop, take-append-drop, take_at, drop_at}
use Rattle.std.proofs.lemmas.List.Folds.{list_all-append}
use Rattle.ipc_flatbuf.specs.ReadResults.{◌>>=◌, check}
use Rattle.ipc_flatbuf.specs.Batches.{BatchModel, batch_at}
use Rattle.ipc_flatbuf.specs.MessageBytes.{header_tag}
use Rattle.ipc_flatbuf.specs.Messages.{MessageModel, message_at, root_at, spec_after_continuation, spec_first_bytes, spec_message_of_size, spec_sized_message}
use Rattle.ipc_flatbuf.specs.declared.error.IpcReadError.{IpcReadError}
use Rattle.ipc_flatbuf.specs.declared.error.IpcReadError.TheVariants as errors
use Rattle.ipc_flatbuf.specs.declared.message.types.MessageKind.TheVariants.{DictionaryBatch, RecordBatch}
use Rattle.ipc_schema.specs.Footers.{check_ends, footer_length, footer_position, is_before, is_block_before, spec_block_bytes, spec_block_length, spec_blocks_before}
use Rattle.ipc_schema.specs.ProjectedFooters.{ProjectedFooterModel, projected_footer_in, spec_projected_footer_at}
use Rattle.ipc_schema.specs.ProjectedSchemas.{ProjectedSchemaModel, spec_check_projected_version}
use Rattle.ipc_schema.specs.Projections.{ProjectionModel}
use Rattle.ipc_schema.specs.declared.footer.types.Block.{Block}
use Rattle.ipc.specs.Files.{FileTree, SliceFileReaderTree, batches_at, block_batch_in, dictionaries_at, dictionary_in_block, file_reader_in, message_of_block, projected_file_in, spec_message_in_block}
use Rattle.ipc.specs.Streams.{RecordBatchTree, StateTree, dictionary_in, record_batch_in, spec_variadic_counts, start}
use Rattle.ipc.specs.ExtendedDictionaries.{HasArrays}
use Rattle.ipc.specs.KnownMoreLaws.{later_known}
use Rattle.ipc.specs.MessageLaws.{ok_same}
use Rattle.ipc_io.specs.Fetched.{metadata_length_at, number_of_size, word_at}
use Rattle.ipc_io.specs.FileMetadata.{block_front, block_rows_in, metadata_at, row_counts_at, row_counts_in, row_counts_of, rows_in_metadata}

-- ---- results

record After {A B : Type 0} (read : Result A IpcReadError) (f : A → Result B IpcReadError) (y : B) : Type 0 where
  value : A
  is : read ≡ Ok value
  rest : f value ≡ Ok y

after : {A B : Type 0} (read : Result A IpcReadError) (f : A → Result B IpcReadError) (y : B) → (read >>= f) ≡ Ok y → After read f y
after (Ok x) f y h = record { value = x; is = refl; rest = h }
after (Err e) f y h = cc

some_same : (x y : MessageModel) → ◌≡◌ {A = Option MessageModel} (Some x) (Some y) → x ≡ y
some_same x y e = cc

abbrev IsAbsent : Option MessageModel → Type 0
IsAbsent None = Unit {0}
IsAbsent (Some m) = ⊥

-- the end of a stream is no message
not_absent : (rest : List ℕ) (m : MessageModel) (behind : List ℕ) → ◌≡◌ {A = Result (Option MessageModel × List ℕ) IpcReadError} (Ok (None, rest)) (Ok (Some m, behind)) → ⊥
not_absent rest m behind e = subst IsAbsent (ap (λ (p : Option MessageModel × List ℕ). p.0) (ok_same {A = Option MessageModel × List ℕ} (None, rest) (Some m, behind) e)) tt

checked : (b : Bool) (e : IpcReadError) (u : Unit {0}) → check b e ≡ Ok u → b ≡ true
checked true e u h = refl
checked false e u h = cc

both : (x y : Bool) → (x && y) ≡ true → (x ≡ true) × (y ≡ true)
both true true h = (refl, refl)
both true false h = cc
both false y h = cc

-- ---- bytes

bool_false : (b : Bool) (P : Type 0) → (b ≡ true → P) → (P → ⊥) → b ≡ false
bool_false true P h k = absurd (k (h refl))
bool_false false P h k = refl

not_zero : (n : ℕ) → 0 < n → (n == 0) ≡ false
not_zero n lt = bool_false (n == 0) (n ≡ 0) (Decides-eqb n 0).0 (λ e. omega (arith, e, lt))

front_long : (n : ℕ) (a b : List ℕ) → length a ≡ n → spec_first_bytes n (a ++ b) ≡ Ok (a, b)
unfolding spec_first_bytes
front_long n a b e =
    let fits : leb n (length (a ++ b)) ≡ true = le-leb _ _ (omega (arith, e, length-append a b)) in
    rw (fits, take_at a b n e, drop_at a b n e) refl

front_all : (n : ℕ) (a : List ℕ) → length a ≡ n → spec_first_bytes n a ≡ Ok (a, [])
front_all n a e = subst (λ (xs : List ℕ). spec_first_bytes n xs ≡ Ok (a, [])) (append-nil a) (front_long n a [] e)

first_parts : (n : ℕ) (xs : List ℕ) (p : List ℕ × List ℕ) → spec_first_bytes n xs ≡ Ok p → (xs ≡ p.0 ++ p.1) × (length p.0 ≡ n)
unfolding spec_first_bytes
first_parts n xs p h = by (leb n (length xs)) refl h
  where
    by : (fits : Bool) → leb n (length xs) ≡ fits → (if fits then Ok (take n xs, drop n xs) else Err errors.Truncated) ≡ Ok p → (xs ≡ p.0 ++ p.1) × (length p.0 ≡ n)
    by true e same =
        let pair : ◌≡◌ {A = List ℕ × List ℕ} (take n xs, drop n xs) p = ok_same {A = List ℕ × List ℕ} (take n xs, drop n xs) p same in
        (sym (take-append-drop n xs) ∙ ap (λ (q : List ℕ × List ℕ). q.0 ++ q.1) pair, ap (λ (q : List ℕ × List ℕ). length q.0) (sym pair) ∙ length-take-le n xs (leb-true n (length xs) e))
    by false e same = cc

-- ---- messages

-- the parts of a message after the length of its metadata
record Sized (size : ℕ) (bytes : List ℕ) (m : MessageModel) (behind : List ℕ) : Type 0 where
  is : bytes ≡ m.metadata ++ (m.body ++ behind)
  long : length m.metadata ≡ size
  root : root_at m.metadata ≡ Ok m.root
  body : length m.body ≡ m.root.body_length

of_size : (size : ℕ) (bytes : List ℕ) (m : MessageModel) (behind : List ℕ) → spec_message_of_size size bytes ≡ Ok (m, behind) → Sized size bytes m behind
unfolding spec_message_of_size
of_size size bytes m behind h =
    let a = after (spec_first_bytes size bytes) _ _ h in
    let b = after (root_at a.value.0) _ _ a.rest in
    let c = after (spec_first_bytes b.value.body_length a.value.1) _ _ b.rest in
    let pair : ◌≡◌ {A = MessageModel × List ℕ} (record { root = b.value; metadata = a.value.0; body = c.value.0 }, c.value.1) (m, behind) = ok_same {A = MessageModel × List ℕ} _ _ c.rest in
    let x = first_parts size bytes a.value a.is in
    let y = first_parts b.value.body_length a.value.1 c.value c.is in
    subst (λ (p : MessageModel × List ℕ). Sized size bytes p.0 p.1) pair (record { is = x.0 ∙ ap (λ (r : List ℕ). a.value.0 ++ r) y.0; long = x.1; root = b.is; body = y.1 })

-- the length of the metadata, and the parts after it
record Measured (bytes : List ℕ) (m : MessageModel) (behind : List ℕ) : Type 0 where
  word : List ℕ
  rest : List ℕ
  size : ℕ
  first : spec_first_bytes 4 bytes ≡ Ok (word, rest)
  number : number_of_size (from_le_bytes w32 word) ≡ Ok size
  parts : Sized size rest m behind

measured : (bytes : List ℕ) (m : MessageModel) (behind : List ℕ) → spec_sized_message bytes ≡ Ok (Some m, behind) → Measured bytes m behind
unfolding spec_sized_message
measured bytes m behind h =
    let a = after (spec_first_bytes 4 bytes) _ _ h in
    let b = after (number_of_size (from_le_bytes w32 a.value.0)) _ _ a.rest in
    record { word = a.value.0; rest = a.value.1; size = b.value; first = a.is; number = b.is; parts = by b.value a.value.1 (b.value == 0) b.rest }
  where
    by : (size : ℕ) (rest : List ℕ) (zero : Bool) → if◌then◌else◌ {A = Result (Option MessageModel × List ℕ) IpcReadError} zero (Ok (None, rest)) (spec_message_of_size size rest >>= λ parts. Ok (Some parts.0, parts.1)) ≡ Ok (Some m, behind) → Sized size rest m behind
    by size rest true e = absurd (not_absent rest m behind e)
    by size rest false e =
        let c = after (spec_message_of_size size rest) _ _ e in
        let same : (c.value.0 ≡ m) × (c.value.1 ≡ behind) = parts_same c.value.0 c.value.1 c.rest in
        subst (λ (x : MessageModel). Sized size rest x behind) same.0 (subst (λ (xs : List ℕ). Sized size rest c.value.0 xs) same.1 (of_size size rest c.value.0 c.value.1 c.is))
      where
        parts_same : (x : MessageModel) (xs : List ℕ) → ◌≡◌ {A = Result (Option MessageModel × List ℕ) IpcReadError} (Ok (Some x, xs)) (Ok (Some m, behind)) → (x ≡ m) × (xs ≡ behind)
        parts_same x xs e =
            let pair : ◌≡◌ {A = Option MessageModel × List ℕ} (Some x, xs) (Some m, behind) = ok_same {A = Option MessageModel × List ℕ} (Some x, xs) (Some m, behind) e in
            (some_same x m (ap (λ (p : Option MessageModel × List ℕ). p.0) pair), ap (λ (p : Option MessageModel × List ℕ). p.1) pair)

-- the bytes of a message before its body, and what follows
record Parsed (own : List ℕ) (m : MessageModel) (behind : List ℕ) : Type 0 where
  front : List ℕ
  is : own ≡ front ++ (m.body ++ behind)
  metadata : metadata_at front ≡ Ok (m.metadata, [])
  root : root_at m.metadata ≡ Ok m.root
  body : length m.body ≡ m.root.body_length

-- the metadata after a word that is its length; after the continuation indicator, and its length
unmarked_front : (word rest : List ℕ) (size : ℕ) → length word ≡ 4 → (from_le_bytes w32 word == 4294967295) ≡ false → number_of_size (from_le_bytes w32 word) ≡ Ok size → length rest ≡ size → metadata_at (word ++ rest) ≡ Ok (rest, [])
unfolding metadata_at metadata_length_at word_at
unmarked_front word rest size four other number long =
    rw (not_zero (length (word ++ rest)) (omega (arith, four, length-append word rest)), front_long 4 word rest four, other, number, front_all size rest long) refl

marked_front : (mark word rest : List ℕ) (size : ℕ) → length mark ≡ 4 → (from_le_bytes w32 mark == 4294967295) ≡ true → length word ≡ 4 → number_of_size (from_le_bytes w32 word) ≡ Ok size → length rest ≡ size → metadata_at (mark ++ (word ++ rest)) ≡ Ok (rest, [])
unfolding metadata_at metadata_length_at word_at
marked_front mark word rest size four is again number long =
    rw (not_zero (length (mark ++ (word ++ rest))) (omega (arith, four, length-append mark (word ++ rest))), front_long 4 mark (word ++ rest) four, is, not_zero (length (word ++ rest)) (omega (arith, again, length-append word rest)), front_long 4 word rest again, number, front_all size rest long) refl

parsed_by : (own : List ℕ) (m : MessageModel) (behind word rest : List ℕ) (mark : Bool) → spec_first_bytes 4 own ≡ Ok (word, rest) → (from_le_bytes w32 word == 4294967295) ≡ mark → Measured (if mark then rest else own) m behind → Parsed own m behind
parsed_by own m behind word rest true first is d =
    let x = first_parts 4 own (word, rest) first in
    let y = first_parts 4 rest (d.word, d.rest) d.first in
    record {
      front = word ++ (d.word ++ m.metadata);
      is = x.0 ∙ ap (λ (r : List ℕ). word ++ r) (y.0 ∙ ap (λ (r : List ℕ). d.word ++ r) d.parts.is) ∙ regrouped;
      metadata = marked_front word d.word m.metadata d.size x.1 is y.1 d.number d.parts.long;
      root = d.parts.root;
      body = d.parts.body;
    }
  where
    regrouped : word ++ (d.word ++ (m.metadata ++ (m.body ++ behind))) ≡ (word ++ (d.word ++ m.metadata)) ++ (m.body ++ behind)
    regrouped = ap (λ (r : List ℕ). word ++ r) (sym (append_assoc d.word m.metadata (m.body ++ behind))) ∙ sym (append_assoc word (d.word ++ m.metadata) (m.body ++ behind))
parsed_by own m behind word rest false first is d =
    let same : ◌≡◌ {A = List ℕ × List ℕ} (word, rest) (d.word, d.rest) = ok_same {A = List ℕ × List ℕ} (word, rest) (d.word, d.rest) (sym first ∙ d.first) in
    let ahead : d.rest ≡ rest = ap (λ (p : List ℕ × List ℕ). p.1) (sym same) in
    let known : number_of_size (from_le_bytes w32 word) ≡ Ok d.size = ap (λ (p : List ℕ × List ℕ). number_of_size (from_le_bytes w32 p.0)) same ∙ d.number in
    let x = first_parts 4 own (word, rest) first in
    record {
      front = word ++ m.metadata;
      is = x.0 ∙ ap (λ (r : List ℕ). word ++ r) (sym ahead ∙ d.parts.is) ∙ sym (append_assoc word m.metadata (m.body ++ behind));
      metadata = unmarked_front word m.metadata d.size x.1 is known d.parts.long;
      root = d.parts.root;
      body = d.parts.body;
    }

parsed : (own : List ℕ) (m : MessageModel) (behind : List ℕ) → message_at own ≡ Ok (Some m, behind) → Parsed own m behind
unfolding message_at spec_after_continuation
parsed [] m behind h = absurd (not_absent [] m behind h)
parsed (b ∷ bytes) m behind h =
    let a = after (spec_after_continuation (b ∷ bytes)) spec_sized_message (Some m, behind) (rw (not_zero (length (b ∷ bytes)) (omega arith)) at h) in
    let w = after (spec_first_bytes 4 (b ∷ bytes)) _ _ a.is in
    let start : (if from_le_bytes w32 w.value.0 == 4294967295 then w.value.1 else b ∷ bytes) ≡ a.value = ok_same {A = List ℕ} _ _ w.rest in
    parsed_by (b ∷ bytes) m behind w.value.0 w.value.1 (from_le_bytes w32 w.value.0 == 4294967295) w.is refl (subst (λ (xs : List ℕ). Measured xs m behind) (sym start) (measured a.value m behind a.rest))

-- ---- blocks

block_fits : (end : ℕ) (offset metadata body : ℤ) → is_before end offset metadata body ≡ true → unsigned_abs offset + (unsigned_abs metadata + unsigned_abs body) ≤ end
block_fits end (pos offset) (pos metadata) (pos body) h = omega (arith, leb-true (offset + metadata + body) end (both (leb 8 offset && leb 8 metadata) (leb (offset + metadata + body) end) h).1)
block_fits end (pos offset) (pos metadata) (negsuc body) h = cc
block_fits end (pos offset) (negsuc metadata) body h = cc
block_fits end (negsuc offset) metadata body h = cc

-- a message that fills its block
record Fills (b : Block) (o : Option MessageModel) (behind : List ℕ) (m : MessageModel) : Type 0 where
  is : o ≡ Some m
  none : length behind ≡ 0
  body : length m.body ≡ unsigned_abs b.body_length

fills : (b : Block) (o : Option MessageModel) (behind : List ℕ) (m : MessageModel) → message_of_block b o behind ≡ Ok m → Fills b o behind m
fills b None behind m h = cc
fills b (Some x) behind m h =
    let a = after (check (length behind == 0 && length x.body == unsigned_abs b.body_length) _) _ _ h in
    let c = both (length behind == 0) (length x.body == unsigned_abs b.body_length) (checked _ _ a.value a.is) in
    let same : x ≡ m = ok_same {A = MessageModel} x m a.rest in
    subst (λ (y : MessageModel). Fills b (Some x) behind y) same (record { is = refl; none = eqb-true (length behind) 0 c.0; body = eqb-true (length x.body) (unsigned_abs b.body_length) c.1 })

-- the rows of a record batch are those in its metadata
record HasRows (m : MessageModel) (rows : ℕ) : Type 0 where
  batch : BatchModel
  is : batch_at m.metadata m.root.header m.root.left m.root.body_length ≡ Ok batch
  same : batch.rows ≡ rows

rows_kept : {A B : Type 0} (more : Result A IpcReadError) (columns : A → Result B IpcReadError) (made : B → RecordBatchTree) (rows : ℕ) (batch : RecordBatchTree) → ((y : B) → (made y).rows ≡ rows) → (more >>= λ x. columns x >>= λ y. Ok (made y)) ≡ Ok batch → rows ≡ batch.rows
rows_kept {B = B} (Ok x) columns made rows batch same h = by (columns x) h
  where
    by : (read : Result B IpcReadError) → (read >>= λ y. Ok (made y)) ≡ Ok batch → rows ≡ batch.rows
    by (Ok y) e = sym (same y) ∙ ap (λ (b : RecordBatchTree). b.rows) (ok_same {A = RecordBatchTree} (made y) batch e)
    by (Err error) e = cc
rows_kept (Err error) columns made rows batch same h = cc

has_rows : (s : StateTree) (m : MessageModel) (batch : RecordBatchTree) → record_batch_in s m ≡ Ok batch → HasRows m batch.rows
unfolding record_batch_in
has_rows s m batch h =
    let a = after (batch_at m.metadata m.root.header m.root.left m.root.body_length) _ _ h in
    record { batch = a.value; is = a.is; same = rows_kept (spec_variadic_counts s.picked m) _ _ a.value.rows batch (λ y. refl) a.rest }

counted : (b : Block) (m : MessageModel) (rows : ℕ) → root_at m.metadata ≡ Ok m.root → m.root.body_length ≡ unsigned_abs b.body_length → (header_tag m.root.kind == header_tag RecordBatch) ≡ true → HasRows m rows → rows_in_metadata b m.metadata [] ≡ Ok rows
unfolding rows_in_metadata
counted b m rows root body kind h =
    rw (root, eq-eqb m.root.body_length (unsigned_abs b.body_length) body, kind, h.is) (ap (λ (n : ℕ). Ok n) h.same)

front_is : (bytes : List ℕ) (b : Block) (front body : List ℕ) → unsigned_abs b.offset + (unsigned_abs b.metadata_length + unsigned_abs b.body_length) ≤ length bytes → spec_block_bytes bytes b ≡ front ++ body → length body ≡ unsigned_abs b.body_length → block_front bytes b ≡ front
front_is bytes b front body fits is long =
    let at = drop (unsigned_abs b.offset) bytes in
    let enough : spec_block_length b ≤ length at = omega (arith, fits, length-drop (unsigned_abs b.offset) bytes) in
    let whole : length (spec_block_bytes bytes b) ≡ spec_block_length b = length-take-le (spec_block_length b) at enough in
    let sum : length front + length body ≡ spec_block_length b = sym (length-append front body) ∙ ap (λ (xs : List ℕ). length xs) (sym is) ∙ whole in
    let short : length front ≡ unsigned_abs b.metadata_length = omega (arith, sum, long) in
    let again : at ≡ front ++ (body ++ drop (spec_block_length b) at) = sym (take-append-drop (spec_block_length b) at) ∙ ap (λ (xs : List ℕ). xs ++ drop (spec_block_length b) at) is ∙ append_assoc front body (drop (spec_block_length b) at) in
    ap (take (unsigned_abs b.metadata_length)) again ∙ take_at front (body ++ drop (spec_block_length b) at) (unsigned_abs b.metadata_length) short

block_rows : (s : StateTree) (bytes : List ℕ) (end : ℕ) (b : Block) (batch : RecordBatchTree) → is_block_before end b ≡ true → end ≤ length bytes → block_batch_in s bytes b ≡ Ok batch → block_rows_in bytes b ≡ Ok batch.rows
unfolding spec_message_in_block
block_rows s bytes end b batch before within h =
    let a = after (spec_message_in_block RecordBatch s.picked (spec_block_bytes bytes b) b) (record_batch_in s) batch h in
    let n = after (message_at (spec_block_bytes bytes b)) _ _ a.is in
    let k = after (message_of_block b n.value.0 n.value.1) _ _ n.rest in
    let c = after (check (header_tag k.value.root.kind == header_tag RecordBatch) _) _ _ k.rest in
    let d = after (spec_check_projected_version k.value.root.version s.picked.schema.fields s.picked.steps) _ _ c.rest in
    let same : k.value ≡ a.value = ok_same {A = MessageModel} k.value a.value d.rest in
    let f = fills b n.value.0 n.value.1 k.value k.is in
    by_parts k.value n.value.1 f (parsed (spec_block_bytes bytes b) k.value n.value.1 (n.is ∙ ap (λ (o : Option MessageModel). Ok (o, n.value.1)) f.is)) (checked _ _ c.value c.is) (has_rows s k.value batch (ap (record_batch_in s) same ∙ a.rest))
  where
    by_parts : (m : MessageModel) (behind : List ℕ) {o : Option MessageModel} → Fills b o behind m → Parsed (spec_block_bytes bytes b) m behind → (header_tag m.root.kind == header_tag RecordBatch) ≡ true → HasRows m batch.rows → block_rows_in bytes b ≡ Ok batch.rows
    by_parts m behind f p kind rows =
        let long : length (m.body ++ behind) ≡ unsigned_abs b.body_length = omega (arith, length-append m.body behind, f.none, f.body) in
        let front : block_front bytes b ≡ p.front = front_is bytes b p.front (m.body ++ behind) (omega (arith, block_fits end b.offset b.metadata_length b.body_length before, within)) p.is long in
        rw (front, p.metadata) (counted b m batch.rows p.root (sym p.body ∙ f.body) kind rows)

all_rows : (s : StateTree) (bytes : List ℕ) (end : ℕ) (blocks : List Block) (batches : List RecordBatchTree) → list_all (is_block_before end) blocks ≡ true → end ≤ length bytes → batches_at s bytes blocks ≡ Ok batches → row_counts_at bytes blocks ≡ Ok (map (λ b. b.rows) batches)
unfolding batches_at row_counts_at
all_rows s bytes end [] batches before within h = ap (λ (bs : List RecordBatchTree). Ok (map (λ b. b.rows) bs)) (ok_same {A = List RecordBatchTree} [] batches h)
all_rows s bytes end (b ∷ blocks) batches before within h =
    let a = after (block_batch_in s bytes b) _ _ h in
    let c = after (batches_at s bytes blocks) _ _ a.rest in
    let e = both (is_block_before end b) (list_all (is_block_before end) blocks) before in
    let same : a.value ∷ c.value ≡ batches = ok_same {A = List RecordBatchTree} (a.value ∷ c.value) batches c.rest in
    rw (block_rows s bytes end b a.value e.0 within a.is, all_rows s bytes end blocks c.value e.1 within c.is) (ap (λ (bs : List RecordBatchTree). Ok (map (λ b. b.rows) bs)) same)

-- ---- files

-- the blocks of a footer end within the file
record Within (bytes : List ℕ) (f : ProjectedFooterModel) : Type 0 where
  end : ℕ
  all : list_all (is_block_before end) f.batches ≡ true
  fits : end ≤ length bytes

blocks_within : (picks : ProjectionModel) (bytes : List ℕ) (f : ProjectedFooterModel) → projected_footer_in picks bytes ≡ Ok f → Within bytes f
unfolding projected_footer_in
blocks_within picks bytes f h =
    let a = after (check_ends bytes) _ _ h in
    let b = after (footer_length bytes) _ _ a.rest in
    let c = after (spec_projected_footer_at picks _) _ _ b.rest in
    by (footer_position b.value bytes) c.value (spec_blocks_before (footer_position b.value bytes) (c.value.dictionaries ++ c.value.batches)) refl (omega arith) c.rest
  where
    by : (end : ℕ) (g : ProjectedFooterModel) (before : Bool) → spec_blocks_before end (g.dictionaries ++ g.batches) ≡ before → end ≤ length bytes → (if before then Ok g else Err errors.Block) ≡ Ok f → Within bytes f
    by end g true is fits same =
        let lists = both (list_all (is_block_before end) (g.dictionaries ++ g.batches)) _ is in
        let parts = both (list_all (is_block_before end) g.dictionaries) (list_all (is_block_before end) g.batches) (sym (list_all-append (is_block_before end) g.dictionaries g.batches) ∙ lists.0) in
        subst (Within bytes) (ok_same {A = ProjectedFooterModel} g f same) (record { end = end; all = parts.1; fits = fits })
    by end g false is fits same = cc

-- dictionaries do not change what is projected
picked_still : (s t : StateTree) (bytes : List ℕ) (blocks : List Block) → HasArrays s.known → dictionaries_at s bytes blocks ≡ Ok t → t.picked ≡ s.picked
unfolding dictionaries_at
picked_still s t bytes [] arrays h = ap (λ (x : StateTree). x.picked) (sym (ok_same {A = StateTree} s t h))
picked_still s t bytes (b ∷ blocks) arrays h =
    let a = after (dictionary_in_block s (spec_block_bytes bytes b) b) _ _ h in
    let m = after (spec_message_in_block DictionaryBatch s.picked (spec_block_bytes bytes b) b) (dictionary_in true s) _ a.is in
    let later = later_known s a.value m.value arrays m.rest in
    picked_still a.value t bytes blocks later.arrays a.rest ∙ later.picked

pub counts_of_file : (picks : ProjectionModel) (bytes : List ℕ) (f : FileTree) → projected_file_in picks bytes ≡ Ok f → row_counts_in picks bytes ≡ Ok (row_counts_of f)
unfolding projected_file_in file_reader_in
counts_of_file picks bytes f h =
    let r = after (file_reader_in picks bytes) _ _ h in
    let bs = after (batches_at r.value.state r.value.bytes r.value.blocks) _ _ r.rest in
    let p = after (projected_footer_in picks bytes) _ _ r.is in
    let known = after (dictionaries_at (start p.value.picked) bytes p.value.dictionaries) _ _ p.rest in
    let reader : record { state = known.value; bytes = bytes; blocks = p.value.batches } ≡ r.value = ok_same {A = SliceFileReaderTree} _ _ known.rest in
    let read : batches_at r.value.state bytes p.value.batches ≡ Ok bs.value = ap (λ (x : SliceFileReaderTree). batches_at r.value.state x.bytes x.blocks) reader ∙ bs.is in
    let picked : p.value.picked ≡ r.value.state.picked = sym (picked_still (start p.value.picked) known.value bytes p.value.dictionaries (λ id. tt) known.is) ∙ ap (λ (x : SliceFileReaderTree). x.state.picked) reader in
    let file = ok_same {A = FileTree} (record { schema = r.value.state.picked.schema; batches = bs.value }) f bs.rest in
    let w = blocks_within picks bytes p.value p.is in
    rw (p.is, all_rows r.value.state bytes w.end p.value.batches bs.value w.all w.fits read) (ap (λ (x : ProjectedSchemaModel). Ok (x.schema, map (λ b. b.rows) bs.value)) picked ∙ ap (λ (x : FileTree). Ok (row_counts_of x)) file)
