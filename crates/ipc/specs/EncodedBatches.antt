-- Lists of dictionary and record batches that are written in order: the dictionaries emitted, their bytes, their blocks, and the first error.
use Rattle.std.proofs.Common.{◌≡◌, ℕ, ◌+◌, ◌^◌, ◌<◌, ◌≤◌, inl, inr, Bool, true, false, leb, List, [], ◌∷◌, ◌++◌, length, get_or, take, drop, map, Option, Some, None, Result, Ok, Err, refl, sym, ap, ◌∙◌, subst, append_assoc, arith}
use Rattle.std.specs.Prelude.{ℤ, if◌then◌else◌}
use Rattle.std.specs.List.{AllByRecursion, flat_map}
use Rattle.std.proofs.lemmas.Bool.{le-leb, lt-leb}
use Rattle.std.proofs.lemmas.List.{append-nil, map-append, map_more, drop_more, take-append-drop, take_all, length-append}
use Rattle.std.proofs.lemmas.List.Concat.{flat_map-cons, flat_map-append}
use Rattle.ipc_flatbuf.specs.declared.error.IpcWriteError.{IpcWriteError}
use Rattle.ipc_flatbuf.specs.declared.error.IpcWriteError.TheVariants.{Size, Columns}
use Rattle.nest_memory.specs.TypeTree.{TypeTree}
use Rattle.nest_model.specs.Layout.{Layout}
use Rattle.ipc_flatbuf.specs.MessageBytes.{metadata_size}
use Rattle.ipc_flatbuf.specs.Batches.{BatchModel, spec_all_within}
use Rattle.ipc_schema.specs.Schemas.{SchemaModel}
use Rattle.ipc_schema.specs.WriteChecks as forms
use Rattle.ipc_schema.specs.WriteChecks.{check_fields}
use Rattle.ipc_schema.specs.SchemaBytes.{schema_message}
use Rattle.ipc_schema.specs.declared.footer.types.Block.{Block}
use Rattle.ipc_arrays.specs.Encoding.{columns_body}
use Rattle.ipc.specs.DictionaryEntries.{DictionaryEntries}
use Rattle.ipc.specs.FileDictionaries.{DictionaryBatchTree}
use Rattle.ipc.specs.Streams.{RecordBatchTree}
use Rattle.ipc.specs.EncodedStreams.{batch_tree, batch_bytes, dictionary_head, dictionary_bytes, emitted_after, encoded_batch, encoded_batches, or_error, schema_error, metadata_error, error_of, each_error, error_from, IsErrorOrMemory, BatchRoundTrips, BatchesRoundTrip}
use Rattle.ipc.specs.EncodedFiles.{block_at, dictionary_blocks, Blocks, no_blocks, with_blocks, batch_offset, file_dictionary_batches, blocks_from, block_length_error, after, FileState, file_state_after}

module _ {A B : Type 0} (f : A → B) where
  pub taken : (xs : List A) (i : ℕ) (x : A) → i < length xs → x ≡ get_or xs i x → map f (take (i + 1) xs) ≡ map f (take i xs) ++ f x ∷ []
  taken xs i x lt is = map_more f xs i x lt ∙ ap (λ (y : A). map f (take i xs) ++ f y ∷ []) (sym is)

  pub left : (xs : List A) (i : ℕ) (x : A) → i < length xs → x ≡ get_or xs i x → map f (drop i xs) ≡ f x ∷ map f (drop (i + 1) xs)
  left xs i x lt is = ap (map f) (drop_more xs i x lt ∙ ap (λ (y : A). y ∷ drop (i + 1) xs) (sym is))

  pub all_taken : (xs : List A) (i : ℕ) → length xs ≤ i → map f (take i xs) ≡ map f xs
  all_taken xs i le = ap (map f) (take_all i xs le)

  pub split : (xs : List A) (i : ℕ) (x : A) → i < length xs → x ≡ get_or xs i x → map f xs ≡ map f (take i xs) ++ f x ∷ map f (drop (i + 1) xs)
  split xs i x lt is =
      let rest : drop i xs ≡ x ∷ drop (i + 1) xs = drop_more xs i x lt ∙ ap (λ (y : A). y ∷ drop (i + 1) xs) (sym is) in
      ap (map f) (sym (take-append-drop i xs)) ∙ map-append f (take i xs) (drop i xs) ∙ ap (λ (ys : List A). map f (take i xs) ++ map f ys) rest

-- the metadata of a record batch, and the length of its body
pub record IsMetadata (b : RecordBatchTree) (metadata : BatchModel) (size : ℕ) : Type 0 where
  pub tree : metadata ≡ batch_tree b
  pub long : size ≡ length (columns_body b.columns)
  pub small : size < 2 ^ 63
  pub within : spec_all_within (length (columns_body b.columns)) (batch_tree b).buffers ≡ Ok tt

-- ---- errors

pub first_refused : (r s : Option IpcWriteError) (why : IpcWriteError) → IsErrorOrMemory r why → IsErrorOrMemory (or_error r s) why
first_refused r s why (inl memory) = inl memory
first_refused r s why (inr reason) = inr (rw reason refl)

pub later_refused : (r s : Option IpcWriteError) (why : IpcWriteError) → r ≡ None → IsErrorOrMemory s why → IsErrorOrMemory (or_error r s) why
later_refused r s why none (inl memory) = inl memory
later_refused r s why none (inr reason) = inr (rw none reason)

pub both_accepted : (r s : Option IpcWriteError) → r ≡ None → s ≡ None → or_error r s ≡ None
both_accepted r s e f = rw e f

pub first_accepts : (r s : Option IpcWriteError) → or_error r s ≡ None → r ≡ None
first_accepts None s h = refl
first_accepts (Some why) s h = h

pub others_accept : (r s : Option IpcWriteError) → or_error r s ≡ None → s ≡ None
others_accept None s h = h
others_accept (Some why) s h = cc

-- of a list of errors the first one
module _ {A : Type 0} (refusal : A → Option IpcWriteError) where
  pub each_push : (xs : List A) (x : A) → each_error refusal xs ≡ None → refusal x ≡ None → each_error refusal (xs ++ x ∷ []) ≡ None
  each_push [] x none h = rw h refl
  each_push (y ∷ xs) x none h =
      both_accepted (refusal y) (each_error refusal (xs ++ x ∷ [])) (first_accepts (refusal y) (each_error refusal xs) none) (each_push xs x (others_accept (refusal y) (each_error refusal xs) none) h)

  each_fails : (front back : List A) (x : A) (why : IpcWriteError) → each_error refusal front ≡ None → IsErrorOrMemory (refusal x) why → IsErrorOrMemory (each_error refusal (front ++ x ∷ back)) why
  each_fails [] back x why none refused = first_refused (refusal x) (each_error refusal back) why refused
  each_fails (y ∷ front) back x why none refused =
      later_refused (refusal y) (each_error refusal (front ++ x ∷ back)) why (first_accepts (refusal y) (each_error refusal front) none) (each_fails front back x why (others_accept (refusal y) (each_error refusal front) none) refused)

  pub each_refused : (xs front back : List A) (x : A) (why : IpcWriteError) → xs ≡ front ++ x ∷ back → each_error refusal front ≡ None → IsErrorOrMemory (refusal x) why → IsErrorOrMemory (each_error refusal xs) why
  each_refused xs front back x why e none refused = subst (λ (ys : List A). IsErrorOrMemory (each_error refusal ys) why) (sym e) (each_fails front back x why none refused)

pub all_push : {A : Type 0} (P : A → Type 0) (xs : List A) (x : A) → AllByRecursion P xs → P x → AllByRecursion P (xs ++ x ∷ [])
all_push P [] x all p = (p, tt)
all_push P (y ∷ xs) x all p = (all.0, all_push P xs x all.1 p)

flat_push : {A : Type 0} (bytes : A → List ℕ) (xs : List A) (x : A) → flat_map bytes (xs ++ x ∷ []) ≡ flat_map bytes xs ++ bytes x
flat_push bytes xs x =
    let one : flat_map bytes (x ∷ []) ≡ bytes x = flat_map-cons bytes x [] ∙ append-nil (bytes x) in
    flat_map-append bytes xs (x ∷ []) ∙ ap (λ (ys : List ℕ). flat_map bytes xs ++ ys) one

-- bytes appended to bytes
joined : (old out new some more all : List ℕ) → out ≡ old ++ some → new ≡ out ++ more → all ≡ some ++ more → new ≡ old ++ all
joined old out new some more all so_far is whole = rw (is, so_far, whole) (append_assoc old some more)

-- ---- dictionary batches in order

pub dictionaries_push : (old out new : List ℕ) (ps more : List DictionaryBatchTree) (p : DictionaryBatchTree) → more ≡ ps ++ p ∷ [] → out ≡ old ++ flat_map dictionary_bytes ps → new ≡ out ++ dictionary_bytes p → new ≡ old ++ flat_map dictionary_bytes more
dictionaries_push old out new ps more p pushed so_far is =
    joined old out new (flat_map dictionary_bytes ps) (dictionary_bytes p) (flat_map dictionary_bytes more) so_far is (ap (flat_map dictionary_bytes) pushed ∙ flat_push dictionary_bytes ps p)

abbrev dictionary_block : ℕ → DictionaryBatchTree → Block
dictionary_block position p = block_at position (dictionary_head p) (columns_body (p.1.1 ∷ []))

dictionary_blocks_push : (position : ℕ) (ps : List DictionaryBatchTree) (p : DictionaryBatchTree) → dictionary_blocks position (ps ++ p ∷ []) ≡ dictionary_blocks position ps ++ dictionary_block (position + length (flat_map dictionary_bytes ps)) p ∷ []
unfolding dictionary_blocks
dictionary_blocks_push position [] p =
    let start : position + 0 ≡ position = omega arith in
    rw start refl
dictionary_blocks_push position (q ∷ ps) p =
    let next : ℕ = position + length (dictionary_bytes q) in
    let all : length (flat_map dictionary_bytes (q ∷ ps)) ≡ length (dictionary_bytes q) + length (flat_map dictionary_bytes ps) = ap length (flat_map-cons dictionary_bytes q ps) ∙ length-append (dictionary_bytes q) (flat_map dictionary_bytes ps) in
    let same : next + length (flat_map dictionary_bytes ps) ≡ position + length (flat_map dictionary_bytes (q ∷ ps)) = omega (arith, all) in
    rw (dictionary_blocks_push next ps p, same) refl

pub dictionary_blocks_more : (position start : ℕ) (ps more : List DictionaryBatchTree) (p : DictionaryBatchTree) (front old new : List Block) (block : Block) → more ≡ ps ++ p ∷ [] → old ≡ front ++ dictionary_blocks position ps → new ≡ old ++ block ∷ [] → block ≡ dictionary_block start p
    → start ≡ position + length (flat_map dictionary_bytes ps) → new ≡ front ++ dictionary_blocks position more
dictionary_blocks_more position start ps more p front old new block pushed so_far is there begins =
    rw (is, so_far, pushed, dictionary_blocks_push position ps p, there, begins) (append_assoc front (dictionary_blocks position ps) (dictionary_block (position + length (flat_map dictionary_bytes ps)) p ∷ []))

-- ---- items in order, each in the state after those before it

module _ {S A : Type 0} (next : S → A → S) where
  pub after_push : (s : S) (xs : List A) (x : A) → after next s (xs ++ x ∷ []) ≡ next (after next s xs) x
  after_push s [] x = refl
  after_push s (y ∷ xs) x = after_push (next s y) xs x

  pub after_more : (s old new : S) (xs more : List A) (x : A) → more ≡ xs ++ x ∷ [] → old ≡ after next s xs → new ≡ next old x → new ≡ after next s more
  after_more s old new xs more x pushed so_far is = rw (is, so_far, pushed) (sym (after_push s xs x))

  module _ (refusal : S → A → Option IpcWriteError) where
    pub from_push : (s : S) (xs : List A) (x : A) → error_from next refusal s xs ≡ None → refusal (after next s xs) x ≡ None → error_from next refusal s (xs ++ x ∷ []) ≡ None
    from_push s [] x none h = rw h refl
    from_push s (y ∷ xs) x none h =
        let r : Option IpcWriteError = refusal s y in
        both_accepted r (error_from next refusal (next s y) (xs ++ x ∷ [])) (first_accepts r (error_from next refusal (next s y) xs) none) (from_push (next s y) xs x (others_accept r (error_from next refusal (next s y) xs) none) h)

    from_fails : (s : S) (front back : List A) (x : A) (why : IpcWriteError) → error_from next refusal s front ≡ None → IsErrorOrMemory (refusal (after next s front) x) why → IsErrorOrMemory (error_from next refusal s (front ++ x ∷ back)) why
    from_fails s [] back x why none refused = first_refused (refusal s x) (error_from next refusal (next s x) back) why refused
    from_fails s (y ∷ front) back x why none refused =
        let r : Option IpcWriteError = refusal s y in
        later_refused r (error_from next refusal (next s y) (front ++ x ∷ back)) why (first_accepts r (error_from next refusal (next s y) front) none) (from_fails (next s y) front back x why (others_accept r (error_from next refusal (next s y) front) none) refused)

    pub from_refused : (s now : S) (xs front back : List A) (x : A) (why : IpcWriteError) → xs ≡ front ++ x ∷ back → now ≡ after next s front → error_from next refusal s front ≡ None → IsErrorOrMemory (refusal now x) why → IsErrorOrMemory (error_from next refusal s xs) why
    from_refused s now xs front back x why e last none refused =
        let here : IsErrorOrMemory (refusal (after next s front) x) why = subst (λ (y : S). IsErrorOrMemory (refusal y x) why) last refused in
        subst (λ (ys : List A). IsErrorOrMemory (error_from next refusal s ys) why) (sym e) (from_fails s front back x why none here)

    pub from_more : (s now : S) (xs more : List A) (x : A) → more ≡ xs ++ x ∷ [] → now ≡ after next s xs → error_from next refusal s xs ≡ None → refusal now x ≡ None → error_from next refusal s more ≡ None
    from_more s now xs more x e last none h =
        let here : refusal (after next s xs) x ≡ None = subst (λ (y : S). refusal y x ≡ None) last h in
        subst (λ (ys : List A). error_from next refusal s ys ≡ None) (sym e) (from_push s xs x none here)

-- ---- record batches in order

-- the dictionaries emitted after record batches
abbrev pub emitted_after_all : DictionaryEntries → List RecordBatchTree → DictionaryEntries
emitted_after_all emitted bs = after emitted_after emitted bs

pub file_state_emitted : (f : FileState) (bs : List RecordBatchTree) → (after file_state_after f bs).emitted ≡ emitted_after_all f.emitted bs
file_state_emitted f [] = refl
file_state_emitted f (b ∷ bs) = file_state_emitted (file_state_after f b) bs

module _ (puts : DictionaryEntries → RecordBatchTree → List DictionaryBatchTree) where
  batches_push : (emitted : DictionaryEntries) (bs : List RecordBatchTree) (b : RecordBatchTree) → encoded_batches puts emitted (bs ++ b ∷ []) ≡ encoded_batches puts emitted bs ++ encoded_batch puts (emitted_after_all emitted bs) b
  unfolding encoded_batches
  batches_push emitted [] b = append-nil (encoded_batch puts emitted b)
  batches_push emitted (c ∷ bs) b =
      let next : DictionaryEntries = emitted_after emitted c in
      ap (λ (x : List ℕ). encoded_batch puts emitted c ++ x) (batches_push next bs b) ∙ sym (append_assoc (encoded_batch puts emitted c) (encoded_batches puts next bs) (encoded_batch puts (emitted_after_all next bs) b))

  pub none_written : (emitted : DictionaryEntries) → encoded_batches puts emitted [] ≡ []
  unfolding encoded_batches
  none_written emitted = refl

  pub bytes_push : (old out new : List ℕ) (emitted now : DictionaryEntries) (bs more : List RecordBatchTree) (b : RecordBatchTree) → more ≡ bs ++ b ∷ [] → now ≡ emitted_after_all emitted bs → out ≡ old ++ encoded_batches puts emitted bs → new ≡ out ++ encoded_batch puts now b → new ≡ old ++ encoded_batches puts emitted more
  bytes_push old out new emitted now bs more b pushed last so_far is =
      let whole : encoded_batches puts emitted more ≡ encoded_batches puts emitted bs ++ encoded_batch puts now b = ap (encoded_batches puts emitted) pushed ∙ batches_push emitted bs b ∙ ap (λ (x : DictionaryEntries). encoded_batches puts emitted bs ++ encoded_batch puts x b) (sym last) in
      joined old out new (encoded_batches puts emitted bs) (encoded_batch puts now b) (encoded_batches puts emitted more) so_far is whole

  again_push : (emitted : DictionaryEntries) (bs : List RecordBatchTree) (b : RecordBatchTree) → BatchesRoundTrip puts emitted bs → BatchRoundTrips (puts (emitted_after_all emitted bs) b) b → BatchesRoundTrip puts emitted (bs ++ b ∷ [])
  again_push emitted [] b ok part = (part, tt)
  again_push emitted (c ∷ bs) b ok part = (ok.0, again_push (emitted_after emitted c) bs b ok.1 part)

  pub again_more : (emitted now : DictionaryEntries) (bs more : List RecordBatchTree) (b : RecordBatchTree) → more ≡ bs ++ b ∷ [] → now ≡ emitted_after_all emitted bs → BatchesRoundTrip puts emitted bs → BatchRoundTrips (puts now b) b → BatchesRoundTrip puts emitted more
  again_more emitted now bs more b pushed last ok part = subst (BatchesRoundTrip puts emitted) (sym pushed) (again_push emitted bs b ok (subst (λ (x : DictionaryEntries). BatchRoundTrips (puts x b) b) last part))

  pub part_long : (emitted : DictionaryEntries) (b : RecordBatchTree) → length (encoded_batch puts emitted b) ≡ length (flat_map dictionary_bytes (puts emitted b)) + length (batch_bytes b)
  unfolding encoded_batch
  part_long emitted b = length-append (flat_map dictionary_bytes (puts emitted b)) (batch_bytes b)

  pub batches_long : (emitted : DictionaryEntries) (b : RecordBatchTree) (bs : List RecordBatchTree) → length (encoded_batches puts emitted (b ∷ bs)) ≡ length (encoded_batch puts emitted b) + length (encoded_batches puts (emitted_after emitted b) bs)
  unfolding encoded_batches
  batches_long emitted b bs = length-append (encoded_batch puts emitted b) (encoded_batches puts (emitted_after emitted b) bs)

-- ---- a schema

pub fields_formed : (s : SchemaModel) → schema_error s ≡ None → check_fields s.fields ≡ Ok tt
fields_formed s none = by (check_fields s.fields) (metadata_error (schema_message s)) none
  where
    by : (form : Result (Unit {0}) IpcWriteError) (rest : Option IpcWriteError) → or_error (error_of form) rest ≡ None → form ≡ Ok tt
    by (Ok tt) rest h = refl
    by (Err why) rest h = cc

pub schema_refused : (s : SchemaModel) (why : IpcWriteError) → forms.IsSchemaWriteError (check_fields s.fields) (metadata_size (schema_message s)) why → IsErrorOrMemory (schema_error s) why
schema_refused s why (inl memory) = inl memory
schema_refused s why (inr (inl reason)) = inr (rw reason refl)
schema_refused s why (inr (inr (form, size, long))) =
    let past : leb (2 ^ 31) (metadata_size (schema_message s)) ≡ true = le-leb _ _ long in
    inr (rw (form, past, size) refl)

pub schema_accepted : (s : SchemaModel) → check_fields s.fields ≡ Ok tt → metadata_size (schema_message s) < 2 ^ 31 → schema_error s ≡ None
schema_accepted s form small =
    let past : leb (2 ^ 31) (metadata_size (schema_message s)) ≡ false = lt-leb _ _ small in
    rw (form, past) refl

-- ---- a file

-- a message that is too long for a block
pub long_refused : (r : Option IpcWriteError) (head : List ℕ) (why : IpcWriteError) → r ≡ None → why ≡ Size → 2 ^ 31 ≤ length head → IsErrorOrMemory (or_error r (block_length_error head)) why
long_refused r head why none size long =
    let past : leb (2 ^ 31) (length head) ≡ true = le-leb _ _ long in
    inr (rw (none, past, size) refl)

pub short_accepted : (r : Option IpcWriteError) (head : List ℕ) → r ≡ None → length head < 2 ^ 31 → or_error r (block_length_error head) ≡ None
short_accepted r head none short =
    let fits : leb (2 ^ 31) (length head) ≡ false = lt-leb _ _ short in
    rw (none, fits) refl

-- ---- the blocks of record batches

-- the blocks of a record batch after others
abbrev pub with_part : Blocks → ℕ → DictionaryEntries → RecordBatchTree → Blocks
with_part blocks position emitted b = with_blocks blocks position (file_dictionary_batches emitted b) b

blocks_push : (position : ℕ) (emitted : DictionaryEntries) (bs : List RecordBatchTree) (b : RecordBatchTree) → blocks_from position emitted (bs ++ b ∷ []) ≡ with_part (blocks_from position emitted bs) (position + length (encoded_batches file_dictionary_batches emitted bs)) (emitted_after_all emitted bs) b
unfolding blocks_from
blocks_push position emitted [] b =
    let start : position + length (encoded_batches file_dictionary_batches emitted []) ≡ position = omega (arith, ap length (none_written file_dictionary_batches emitted)) in
    let none : dictionary_blocks position (file_dictionary_batches emitted b) ++ [] ≡ dictionary_blocks position (file_dictionary_batches emitted b) = append-nil (dictionary_blocks position (file_dictionary_batches emitted b)) in
    rw (start, none) refl
blocks_push position emitted (c ∷ bs) b =
    let next : DictionaryEntries = emitted_after emitted c in
    let behind : ℕ = batch_offset position emitted c + length (batch_bytes c) in
    let same : behind + length (encoded_batches file_dictionary_batches next bs) ≡ position + length (encoded_batches file_dictionary_batches emitted (c ∷ bs)) = omega (arith, batches_long file_dictionary_batches emitted c bs, part_long file_dictionary_batches emitted c) in
    let new : List Block = dictionary_blocks (behind + length (encoded_batches file_dictionary_batches next bs)) (file_dictionary_batches (emitted_after_all next bs) b) in
    rw (sym same, blocks_push behind next bs b, append_assoc (dictionary_blocks position (file_dictionary_batches emitted c)) (blocks_from behind next bs).dictionaries new) refl

pub blocks_more : (position start : ℕ) (emitted now : DictionaryEntries) (bs more : List RecordBatchTree) (b : RecordBatchTree) (old new : Blocks) → more ≡ bs ++ b ∷ [] → now ≡ emitted_after_all emitted bs → old ≡ blocks_from position emitted bs → new ≡ with_part old start now b → start ≡ position + length (encoded_batches file_dictionary_batches emitted bs)
    → new ≡ blocks_from position emitted more
blocks_more position start emitted now bs more b old new pushed last so_far is begins = rw (is, so_far, last, begins, pushed) (sym (blocks_push position emitted bs b))

pub no_blocks_yet : (position : ℕ) (emitted : DictionaryEntries) → blocks_from position emitted [] ≡ no_blocks
unfolding blocks_from
no_blocks_yet position emitted = refl
