-- A push into a dictionary: the index of a value, and that the values stay distinct.
use Rattle.std.specs.Prelude.{◌↔◌, Option, Some, None, ◌&&◌, is_some, if◌then◌else◌}
use Rattle.std.specs.Bool.{Decides, beq}
use Rattle.std.specs.Option.{option_map}
use Rattle.std.specs.Ordering.{int_eq}
use Rattle.std.specs.Cmp.Lexicographic.{pointwise, pointwise_decides, bytes_decides}
use Rattle.std.proofs.Common.{◌≡◌, ◌≢◌, ℕ, ℤ, zero, suc, ◌≤◌, ◌<◌, ltb, Bool, true, false, cond, List, [], ◌∷◌, ◌++◌, length, get_or, map, refl, sym, ap, ◌∙◌, arith}
use Rattle.std.proofs.Math.Seq.{take-append_seam}
use Rattle.std.proofs.lemmas.Bool.{ltb-true, ltb-false}
use Rattle.std.proofs.lemmas.Bool.Decides.{Decides-int_eq}
use Rattle.std.proofs.lemmas.List.{length_push, map_push, get_or_append_left, get_or_push}
use Rattle.nest_memory.specs.TypeTree.{TypeTree}
use Rattle.nest_memory.specs.declared.datatypes.IntegerType.{IntegerType}
use Rattle.nest_model.specs.Slot as slots
use Rattle.nest_model.specs.Slot.{Slot}
use Rattle.nest_model.specs.BuilderRow.{values_needed}
use Rattle.nest_model.specs.BuilderTree.{BuilderTree, dictionary, builder_len}
use Rattle.nest_model.specs.BuilderLevels.{value_at, own_slots}
use Rattle.nest_model.specs.BuilderComplete.{IsComplete, AreDifferent}
use Rattle.nest_model.specs.BuilderItem as items
use Rattle.nest_model.specs.BuilderItem.{PlainValue, boolean, native, utf8, bytes, slot_of_plain, takes, is_value, Holds, IsValueAt, Lacks, position_of}
use Rattle.nest_model.specs.BuilderAppend.{Accepted}
use Rattle.nest_model.specs.BuilderRefusals.{is_known}
use Rattle.nest_model.specs.BuilderRowLaws.{values_needed-push, values_needed-nulls}
use Rattle.nest_model.specs.BuilderLevelLaws.{own-length, len-grown, values-longer}
use Rattle.nest_model.specs.BuilderTruncateLaws.{cut-complete}
use Rattle.nest_model.specs.BuilderAppendLaws.{type-accepted}

beq-decides : (a b : Bool) → Decides (beq a b) (a ≡ b)
beq-decides true true = (λ e. refl, λ e. refl)
beq-decides true false = (λ e. absurd cc, λ e. absurd cc)
beq-decides false true = (λ e. absurd cc, λ e. absurd cc)
beq-decides false false = (λ e. refl, λ e. refl)

same_boolean : (a b : Bool) → slots.boolean a ≡ slots.boolean b → a ≡ b
same_boolean a b e = cc

same_number : (a b : List ℤ) → slots.number a ≡ slots.number b → a ≡ b
same_number a b e = cc

same_text : (a b : List ℕ) → slots.utf8 a ≡ slots.utf8 b → a ≡ b
same_text a b e = cc

same_bytes : (a b : List ℕ) → slots.bytes a ≡ slots.bytes b → a ≡ b
same_bytes a b e = cc

numbers_decide : (a b : List ℤ) → Decides (pointwise int_eq a b) (a ≡ b)
numbers_decide a b = pointwise_decides Decides-int_eq a b

-- `is_value` decides whether the slot equals the value
pub is_value-decides : (v : PlainValue) (x : Slot) → Decides (is_value v x) (slot_of_plain v ≡ x)
is_value-decides (boolean a) slots.null = (λ e. absurd cc, λ e. absurd cc)
is_value-decides (boolean a) (slots.boolean b) = (λ e. ap slots.boolean ((beq-decides a b).0 e), λ e. (beq-decides a b).1 (same_boolean a b e))
is_value-decides (boolean a) (slots.number b) = (λ e. absurd cc, λ e. absurd cc)
is_value-decides (boolean a) (slots.utf8 b) = (λ e. absurd cc, λ e. absurd cc)
is_value-decides (boolean a) (slots.bytes b) = (λ e. absurd cc, λ e. absurd cc)
is_value-decides (boolean a) (slots.list b) = (λ e. absurd cc, λ e. absurd cc)
is_value-decides (boolean a) (slots.record_of b) = (λ e. absurd cc, λ e. absurd cc)
is_value-decides (boolean a) (slots.pick f t b) = (λ e. absurd cc, λ e. absurd cc)
is_value-decides (native p a) slots.null = (λ e. absurd cc, λ e. absurd cc)
is_value-decides (native p a) (slots.boolean b) = (λ e. absurd cc, λ e. absurd cc)
is_value-decides (native p a) (slots.number b) = (λ e. ap slots.number ((numbers_decide a b).0 e), λ e. (numbers_decide a b).1 (same_number a b e))
is_value-decides (native p a) (slots.utf8 b) = (λ e. absurd cc, λ e. absurd cc)
is_value-decides (native p a) (slots.bytes b) = (λ e. absurd cc, λ e. absurd cc)
is_value-decides (native p a) (slots.list b) = (λ e. absurd cc, λ e. absurd cc)
is_value-decides (native p a) (slots.record_of b) = (λ e. absurd cc, λ e. absurd cc)
is_value-decides (native p a) (slots.pick f t b) = (λ e. absurd cc, λ e. absurd cc)
is_value-decides (utf8 a) slots.null = (λ e. absurd cc, λ e. absurd cc)
is_value-decides (utf8 a) (slots.boolean b) = (λ e. absurd cc, λ e. absurd cc)
is_value-decides (utf8 a) (slots.number b) = (λ e. absurd cc, λ e. absurd cc)
is_value-decides (utf8 a) (slots.utf8 b) = (λ e. ap slots.utf8 ((bytes_decides a b).0 e), λ e. (bytes_decides a b).1 (same_text a b e))
is_value-decides (utf8 a) (slots.bytes b) = (λ e. absurd cc, λ e. absurd cc)
is_value-decides (utf8 a) (slots.list b) = (λ e. absurd cc, λ e. absurd cc)
is_value-decides (utf8 a) (slots.record_of b) = (λ e. absurd cc, λ e. absurd cc)
is_value-decides (utf8 a) (slots.pick f t b) = (λ e. absurd cc, λ e. absurd cc)
is_value-decides (bytes a) slots.null = (λ e. absurd cc, λ e. absurd cc)
is_value-decides (bytes a) (slots.boolean b) = (λ e. absurd cc, λ e. absurd cc)
is_value-decides (bytes a) (slots.number b) = (λ e. absurd cc, λ e. absurd cc)
is_value-decides (bytes a) (slots.utf8 b) = (λ e. absurd cc, λ e. absurd cc)
is_value-decides (bytes a) (slots.bytes b) = (λ e. ap slots.bytes ((bytes_decides a b).0 e), λ e. (bytes_decides a b).1 (same_bytes a b e))
is_value-decides (bytes a) (slots.list b) = (λ e. absurd cc, λ e. absurd cc)
is_value-decides (bytes a) (slots.record_of b) = (λ e. absurd cc, λ e. absurd cc)
is_value-decides (bytes a) (slots.pick f t b) = (λ e. absurd cc, λ e. absurd cc)

tested_true : (v : PlainValue) (x : Slot) → x ≡ slot_of_plain v → is_value v x ≡ true
tested_true v x e = (is_value-decides v x).1 (sym e)

tested_false : (v : PlainValue) (x : Slot) (b : Bool) → is_value v x ≡ b → x ≢ slot_of_plain v → b ≡ false
tested_false v x false t e = refl
tested_false v x true t e = absurd (e (sym ((is_value-decides v x).0 t)))

-- the first index of the value
pub place-first : (v : PlainValue) (xs : List Slot) (k : ℕ) → k < length xs → get_or xs k slots.null ≡ slot_of_plain v → ((j : ℕ) → j < k → get_or xs j slots.null ≢ slot_of_plain v) → position_of v xs ≡ Some k
place-first v [] k l e f = absurd (omega arith)
place-first v (x ∷ xs) zero l e f = rw (tested_true v x e) refl
place-first v (x ∷ xs) (suc k) l e f =
    let rest : position_of v xs ≡ Some k = place-first v xs k (omega arith) e (λ j m. f (suc j) (omega arith)) in
    rw (tested_false v x (is_value v x) refl (f zero (omega arith)), rest) refl

pub place-none : (v : PlainValue) (xs : List Slot) → ((j : ℕ) → j < length xs → get_or xs j slots.null ≢ slot_of_plain v) → position_of v xs ≡ None
place-none v [] f = refl
place-none v (x ∷ xs) f =
    let rest : position_of v xs ≡ None = place-none v xs (λ j m. f (suc j) (omega arith)) in
    rw (tested_false v x (is_value v x) refl (f zero (omega arith)), rest) refl

some_same : (i j : ℕ) → ◌≡◌ {A = Option ℕ} (Some i) (Some j) → i ≡ j
some_same i j r = cc

same_suc : (i j : ℕ) → ◌≡◌ {A = Option ℕ} (Some (suc i)) (Some (suc j)) → i ≡ j
same_suc i j r = cc

at_place : (v : PlainValue) (x : Slot) (xs : List Slot) (b : Bool) (o : Option ℕ) (j : ℕ) → is_value v x ≡ b → ((i : ℕ) → o ≡ Some i → (i < length xs) × (get_or xs i slots.null ≡ slot_of_plain v))
    → cond b (Some zero) (option_map suc o) ≡ Some j → (j < length (x ∷ xs)) × (get_or (x ∷ xs) j slots.null ≡ slot_of_plain v)
at_place v x xs true o zero t q r = (omega arith, sym ((is_value-decides v x).0 t))
at_place v x xs true o (suc j) t q r = absurd cc
at_place v x xs false None j t q r = absurd cc
at_place v x xs false (Some i) zero t q r = absurd cc
at_place v x xs false (Some i) (suc j) t q r = let found = q j (ap (λ n. Some n) (same_suc i j r)) in (omega (arith, found.0), found.1)

-- the slot at that index is the value
pub place-holds : (v : PlainValue) (xs : List Slot) (k : ℕ) → position_of v xs ≡ Some k → (k < length xs) × (get_or xs k slots.null ≡ slot_of_plain v)
place-holds v [] k e = absurd cc
place-holds v (x ∷ xs) k e = at_place v x xs (is_value v x) (position_of v xs) k refl (λ i q. place-holds v xs i q) e

absent : (v : PlainValue) (x : Slot) (xs : List Slot) (b : Bool) (o : Option ℕ) (j : ℕ) → is_value v x ≡ b → (o ≡ None → (i : ℕ) → i < length xs → get_or xs i slots.null ≢ slot_of_plain v)
    → cond b (Some zero) (option_map suc o) ≡ None → j < length (x ∷ xs) → get_or (x ∷ xs) j slots.null ≢ slot_of_plain v
absent v x xs true o j t q r l = absurd cc
absent v x xs false (Some i) j t q r l = absurd cc
absent v x xs false None zero t q r l = λ e. absurd (let a : true ≡ false = sym (tested_true v x e) ∙ t in cc)
absent v x xs false None (suc j) t q r l = q refl j (omega arith)

pub place-absent : (v : PlainValue) (xs : List Slot) (j : ℕ) → position_of v xs ≡ None → j < length xs → get_or xs j slots.null ≢ slot_of_plain v
place-absent v [] j e l = absurd (omega arith)
place-absent v (x ∷ xs) j e l = absent v x xs (is_value v x) (position_of v xs) j refl (λ q i m. place-absent v xs i q m) e l

-- a search that tests each index in order finds the first index
pub place-stands : (c : BuilderTree) (v : PlainValue) (k : ℕ) → IsValueAt c v k → ((j : ℕ) → j < k → ¬ IsValueAt c v j) → position_of v (own_slots c) ≡ Some k
place-stands c v k f g = place-first v (own_slots c) k (rw (own-length c) f.0) f.1.1 (λ j m e. g j m (omega (arith, m, f.0), (f.1.0, e)))

pub place-lacks : (c : BuilderTree) (v : PlainValue) → takes c v ≡ true → Lacks c v → position_of v (own_slots c) ≡ None
place-lacks c v t g = place-none v (own_slots c) (λ j m e. g j (rw (← (own-length c)) m, (t, e)))

-- a value is known exactly if it has an index
and-parts : (a : Bool) (o : Option ℕ) → (a && is_some o) ≡ true → (a ≡ true) × ((k : ℕ) × (o ≡ Some k))
and-parts true (Some k) h = (refl, (k, refl))
and-parts true None h = absurd (let e : false ≡ true = h in cc)
and-parts false o h = absurd (let e : false ≡ true = h in cc)

pub known-stands : (c : BuilderTree) (v : PlainValue) → is_known c v ≡ true → (k : ℕ) × IsValueAt c v k
known-stands c v h =
    let p = and-parts (takes c v) (position_of v (own_slots c)) h in
    let q = place-holds v (own_slots c) p.1.0 p.1.1 in
    (p.1.0, (omega (arith, own-length c, q.0), (p.0, q.1)))

pub stands-known : (c : BuilderTree) (v : PlainValue) (k : ℕ) → IsValueAt c v k → is_known c v ≡ true
stands-known c v k s = by_place (position_of v (own_slots c)) refl
  where
    by_place : (o : Option ℕ) → position_of v (own_slots c) ≡ o → is_known c v ≡ true
    by_place (Some j) e = rw (s.1.0, e) refl
    by_place None e = absurd (place-absent v (own_slots c) k e (rw (own-length c) s.0) s.1.1)

-- a new value at the end of distinct values
pub AreDifferent-push : (xs : List Slot) (v : Slot) → AreDifferent xs → ((j : ℕ) → j < length xs → get_or xs j slots.null ≢ v) → AreDifferent (xs ++ v ∷ [])
AreDifferent-push xs v d f i j li lj e = different (ltb i (length xs)) (ltb j (length xs)) refl refl
  where
    at_end : (k : ℕ) → k < length (xs ++ v ∷ []) → length xs ≤ k → get_or (xs ++ v ∷ []) k slots.null ≡ v
    at_end k a b = let q : k ≡ length xs = omega (arith, length_push xs v) in rw q (get_or_push xs v slots.null (length xs) refl)

    different : (b c : Bool) → ltb i (length xs) ≡ b → ltb j (length xs) ≡ c → i ≡ j
    different true true p q = d i j (ltb-true i (length xs) p) (ltb-true j (length xs) q) (sym (get_or_append_left xs (v ∷ []) slots.null i (ltb-true i (length xs) p)) ∙ (e ∙ get_or_append_left xs (v ∷ []) slots.null j (ltb-true j (length xs) q)))
    different true false p q = absurd (f i (ltb-true i (length xs) p) (sym (get_or_append_left xs (v ∷ []) slots.null i (ltb-true i (length xs) p)) ∙ (e ∙ at_end j lj (ltb-false j (length xs) q))))
    different false true p q = absurd (f j (ltb-true j (length xs) q) (sym (get_or_append_left xs (v ∷ []) slots.null j (ltb-true j (length xs) q)) ∙ (sym e ∙ at_end i li (ltb-false i (length xs) p))))
    different false false p q = omega (arith, li, lj, length_push xs v, ltb-false i (length xs) p, ltb-false j (length xs) q)

pub AreDifferent-took : (c d : BuilderTree) (v : PlainValue) → position_of v (own_slots c) ≡ None → own_slots d ≡ own_slots c ++ slot_of_plain v ∷ [] → AreDifferent (own_slots c) → AreDifferent (own_slots d)
AreDifferent-took c d v p e h = rw e (AreDifferent-push (own_slots c) (slot_of_plain v) h (λ j m. place-absent v (own_slots c) j p m))

-- A dictionary with a known value: only a key is added.
pub dictionary_key_added : (i : IntegerType) (t : TypeTree) (keys new : List (Option ℕ)) (c : BuilderTree) (v : PlainValue) (k : ℕ) → position_of v (own_slots c) ≡ Some k → new ≡ keys ++ Some k ∷ []
    → IsComplete (dictionary i t keys c) → Accepted (items.plain v) (dictionary i t keys c) (dictionary i t new c)
dictionary_key_added i t keys new c v k f g w =
    let there = place-holds v (own_slots c) k f in
    let below : k < builder_len c = rw (← (own-length c)) there.0 in
    rw g (record {
      exact = rw f refl;
      last = map_push (value_at (own_slots c)) keys (Some k) ∙ ap (λ x. map (value_at (own_slots c)) keys ++ x ∷ []) there.1;
      complete = (w.0, w.1, rw (values_needed-push keys k) (omega (arith, w.2, below)));
      undo = rw (take-append_seam keys (Some k ∷ []), ← w.2, cut-complete c w.0) refl;
      differ = λ d. d;
    })

-- A dictionary with a new value: its key is the number of values before.
pub dictionary_accepted : (i : IntegerType) (t : TypeTree) (keys new : List (Option ℕ)) (c d : BuilderTree) (v : PlainValue) → position_of v (own_slots c) ≡ None → new ≡ keys ++ Some (builder_len c) ∷ []
    → IsComplete (dictionary i t keys c) → Accepted (items.plain v) c d → Accepted (items.plain v) (dictionary i t keys c) (dictionary i t new d)
dictionary_accepted i t keys new c d v f g w a =
    let at_end : values_needed keys ≤ length (own_slots c) = omega (arith, w.2, own-length c) in
    rw g (record {
      exact = rw (f, a.exact) refl;
      last = rw (map_push (value_at (own_slots d)) keys (Some (builder_len c)), a.last, values-longer keys (own_slots c) (slot_of_plain v ∷ []) at_end, get_or_push (own_slots c) (slot_of_plain v) slots.null (builder_len c) (own-length c)) refl;
      complete = (a.complete, rw (type-accepted (items.plain v) c d a) w.1, rw (values_needed-push keys (builder_len c)) (omega (arith, len-grown (slot_of_plain v ∷ []) c d a.last, w.2)));
      undo = rw (take-append_seam keys (Some (builder_len c) ∷ []), ← w.2, a.undo) refl;
      differ = λ h. (AreDifferent-took c d v f a.last h.0, a.differ h.1);
    })

-- the key of a value among distinct values
pub key_exact : (c : BuilderTree) (v : PlainValue) (k r j : ℕ) → IsValueAt c v k → AreDifferent (own_slots c) → r ≡ k → (◌≡◌ {A = Option ℕ} (Some r) (Some j)) ↔ IsValueAt c v j
key_exact c v k r j h d g = (
  λ q. let s : j ≡ k = sym (some_same r j q) ∙ g in rw s h,
  λ q. ap (λ n. Some n) (g ∙ d k j (rw (own-length c) h.0) (rw (own-length c) q.0) (h.1.1 ∙ sym q.1.1)),
)

pub key_exact-none : (c : BuilderTree) (v : PlainValue) (j : ℕ) → Lacks c v → (◌≡◌ {A = Option ℕ} None (Some j)) ↔ IsValueAt c v j
key_exact-none c v j h = (λ q. absurd cc, λ q. absurd (h j q))

-- keys are less than the number of values
pub keys_within : (ks new : List (Option ℕ)) (k n : ℕ) → new ≡ ks ++ Some k ∷ [] → values_needed ks ≤ n → k < n → values_needed new ≤ n
keys_within ks new k n e h l = rw (e, values_needed-push ks k) (omega arith)

pub keys_within-null : (ks new : List (Option ℕ)) (n : ℕ) → new ≡ ks ++ None ∷ [] → values_needed ks ≤ n → values_needed new ≤ n
keys_within-null ks new n e h = rw (e, values_needed-nulls ks 1) h

-- the same if the push may have been refused
pub keys_within-if : (b : Bool) (ks new : List (Option ℕ)) (k n : ℕ) → new ≡ (if b then ks ++ Some k ∷ [] else ks) → values_needed ks ≤ n → k < n → values_needed new ≤ n
keys_within-if true ks new k n e h l = keys_within ks new k n e h l
keys_within-if false ks new k n e h l = rw e h

pub keys_within-null_if : (b : Bool) (ks new : List (Option ℕ)) (n : ℕ) → new ≡ (if b then ks ++ None ∷ [] else ks) → values_needed ks ≤ n → values_needed new ≤ n
keys_within-null_if true ks new n e h = keys_within-null ks new n e h
keys_within-null_if false ks new n e h = rw e h
