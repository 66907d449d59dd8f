-- The result of appending at each level, and the sum of accepted pushes.
use Rattle.std.specs.Prelude.{Option, Some, None}
use Rattle.std.proofs.Common.{◌≡◌, ℕ, zero, suc, ◌+◌, ◌*◌, ◌≤◌, ◌<◌, Bool, true, false, List, [], ◌∷◌, ◌++◌, length, map, replicate, refl, sym, ap, ◌∙◌, arith}
use Rattle.std.proofs.Math.Seq.{take-append_seam}
use Rattle.std.proofs.Math.Nat.{add-mul, one-mul, zero-mul}
use Rattle.std.proofs.lemmas.List.{append-nil, append_assoc, length_push, length-replicate, replicate-append-replicate, map_push, map-append, length-map, get_or_append_left}
use Rattle.nest_memory.specs.TypeTree.{TypeTree, size_of}
use Rattle.nest_memory.specs.declared.datatypes.IntegerType.{IntegerType}
use Rattle.nest_model.specs.Slot as slots
use Rattle.nest_model.specs.Slot.{Slot, seal}
use Rattle.nest_model.specs.BuilderRow.{Row, row_ending, end_from}
use Rattle.nest_model.specs.BuilderTree.{BuilderTree, BuilderTrees, flat, list, fixed_size_list, dictionary, struct, no_builders, more_builders, builder_type, builder_types, builder_len}
use Rattle.nest_model.specs.BuilderLevels.{value_at, record_at, rows_of_records, own_slots, own_slots_each}
use Rattle.nest_model.specs.BuilderComplete.{IsComplete, AreComplete, truncate_builder, truncate_builders, ValuesDifferEach}
use Rattle.nest_model.specs.BuilderItem as items
use Rattle.nest_model.specs.BuilderItem.{PlainValue, Item, Items, no_items, more_items, seal_items, count_items, slot_of_plain, slot_of_item, slots_of_items, position_of}
use Rattle.nest_model.specs.BuilderAppend.{nulls_appended, nulls_appended_each, keyed, value_appended, appended, items_appended, all_appended, Accepted, AcceptedAll, EachAccepted}
use Rattle.nest_model.specs.BuilderRowLaws.{end_from-push, RisesFrom-push, end_from-append, end_from-same, values_needed-nulls}
use Rattle.nest_model.specs.BuilderLevelLaws.{own-length, len-grown, cut-rest, cut-last, items-push, items-longer, size-push, size-longer, records-push}
use Rattle.nest_model.specs.BuilderTruncateLaws.{cut-complete, builder-cut-cut}

-- data types do not change
mutual
  pub type-nulls : (n : ℕ) (t : BuilderTree) → builder_type (nulls_appended n t) ≡ builder_type t
  type-nulls n (flat k xs) = refl
  type-nulls n (list large k rows c) = refl
  type-nulls n (fixed_size_list k bits c) = refl
  type-nulls n (dictionary i k keys c) = refl
  type-nulls n (struct k bits cs) = refl

  pub types-nulls : (n : ℕ) (cs : BuilderTrees) → builder_types (nulls_appended_each n cs) ≡ builder_types cs
  types-nulls n no_builders = refl
  types-nulls n (more_builders c cs) = rw (type-nulls n c, types-nulls n cs) refl

type-keyed : (i : IntegerType) (k : TypeTree) (keys : List (Option ℕ)) (c d : BuilderTree) (o : Option ℕ) → builder_type (keyed i k keys c d o) ≡ k
type-keyed i k keys c d None = refl
type-keyed i k keys c d (Some j) = refl

pub type-value : (v : PlainValue) (t : BuilderTree) → builder_type (value_appended v t) ≡ builder_type t
type-value v (flat k xs) = refl
type-value v (list large k rows c) = refl
type-value v (fixed_size_list k bits c) = refl
type-value v (dictionary i k keys c) = type-keyed i k keys c (value_appended v c) (position_of v (own_slots c))
type-value v (struct k bits cs) = refl

pub type-appended : (x : Item) (t : BuilderTree) → builder_type (appended x t) ≡ builder_type t
type-appended items.null t = type-nulls 1 t
type-appended (items.plain v) t = type-value v t
type-appended (items.list_of xs) (flat k ss) = refl
type-appended (items.list_of xs) (list large k rows c) = refl
type-appended (items.list_of xs) (fixed_size_list k bits c) = refl
type-appended (items.list_of xs) (dictionary i k keys c) = refl
type-appended (items.list_of xs) (struct k bits cs) = refl

pub type-all_appended : (xs : List Item) (t : BuilderTree) → builder_type (all_appended xs t) ≡ builder_type t
type-all_appended [] t = refl
type-all_appended (x ∷ xs) t = type-all_appended xs (appended x t) ∙ type-appended x t

pub type-accepted : (x : Item) (a b : BuilderTree) → Accepted x a b → builder_type b ≡ builder_type a
type-accepted x a b h = ap builder_type h.exact ∙ type-appended x a

pub type-accepted_all : (xs : List Item) (a b : BuilderTree) → AcceptedAll xs a b → builder_type b ≡ builder_type a
type-accepted_all xs a b h = ap builder_type h.exact ∙ type-all_appended xs a

-- lists of items
pub appended-sealed : (xs : List Item) (t : BuilderTree) → items_appended (seal_items xs) t ≡ all_appended xs t
appended-sealed [] t = refl
appended-sealed (x ∷ xs) t = appended-sealed xs (appended x t)

pub slots-sealed : (xs : List Item) → slots_of_items (seal_items xs) ≡ seal (map slot_of_item xs)
slots-sealed [] = refl
slots-sealed (x ∷ xs) = ap (slots.more_slots (slot_of_item x)) (slots-sealed xs)

pub count-sealed : (xs : List Item) → count_items (seal_items xs) ≡ length xs
count-sealed [] = refl
count-sealed (x ∷ xs) = ap suc (count-sealed xs)

pub all_appended-push : (xs : List Item) (x : Item) (t : BuilderTree) → all_appended (xs ++ x ∷ []) t ≡ appended x (all_appended xs t)
all_appended-push [] x t = refl
all_appended-push (y ∷ xs) x t = all_appended-push xs x (appended y t)

pub len-accepted : (x : Item) (a b : BuilderTree) → Accepted x a b → builder_len b ≡ builder_len a + 1
len-accepted x a b h = len-grown (slot_of_item x ∷ []) a b h.last

pub len-accepted_all : (xs : List Item) (a b : BuilderTree) → AcceptedAll xs a b → builder_len b ≡ builder_len a + length xs
len-accepted_all xs a b h = omega (arith, len-grown (map slot_of_item xs) a b h.last, length-map xs slot_of_item)

-- no accepted item, and one more
pub accepted_none : (t : BuilderTree) → IsComplete t → AcceptedAll [] t t
accepted_none t w = record { exact = refl; last = sym (append-nil (own_slots t)); complete = w; undo = cut-complete t w; differ = λ d. d }

pub accepted_more : (xs : List Item) (x : Item) (a b c : BuilderTree) → AcceptedAll xs a b → Accepted x b c → AcceptedAll (xs ++ x ∷ []) a c
accepted_more xs x a b c h k = record {
  exact = rw (all_appended-push xs x a, ← h.exact) k.exact;
  last = rw (k.last, h.last, map_push slot_of_item xs x) (append_assoc (own_slots a) (map slot_of_item xs) (slot_of_item x ∷ []));
  complete = k.complete;
  undo = sym (builder-cut-cut c (builder_len a) (builder_len b) k.complete (omega (arith, len-accepted_all xs a b h))) ∙ (ap (λ u. truncate_builder u (builder_len a)) k.undo ∙ h.undo);
  differ = λ d. k.differ (h.differ d);
}

pub accepted_one : (x : Item) (a b : BuilderTree) → IsComplete a → Accepted x a b → AcceptedAll (x ∷ []) a b
accepted_one x a b w h = accepted_more [] x a a b (accepted_none a w) h

-- two lists of accepted items, one after the other
pub accepted_both : (xs ys : List Item) (a b c : BuilderTree) → AcceptedAll xs a b → AcceptedAll ys b c → AcceptedAll (xs ++ ys) a c
accepted_both xs ys a b c h k = record {
  exact = k.exact ∙ (ap (all_appended ys) h.exact ∙ sym (all_appended-append xs ys a));
  last = rw (k.last, h.last, map-append slot_of_item xs ys) (append_assoc (own_slots a) (map slot_of_item xs) (map slot_of_item ys));
  complete = k.complete;
  undo = sym (builder-cut-cut c (builder_len a) (builder_len b) k.complete (omega (arith, len-accepted_all xs a b h))) ∙ (ap (λ u. truncate_builder u (builder_len a)) k.undo ∙ h.undo);
  differ = λ d. k.differ (h.differ d);
}
  where
    all_appended-append : (us vs : List Item) (t : BuilderTree) → all_appended (us ++ vs) t ≡ all_appended vs (all_appended us t)
    all_appended-append [] vs t = refl
    all_appended-append (u ∷ us) vs t = all_appended-append us vs (appended u t)

-- A flat builder accepted one slot.
pub flat_accepted : (k : TypeTree) (xs new : List Slot) (v : PlainValue) → new ≡ xs ++ slot_of_plain v ∷ [] → Accepted (items.plain v) (flat k xs) (flat k new)
flat_accepted k xs new v e = rw e (record { exact = refl; last = refl; complete = tt; undo = ap (flat k) (take-append_seam xs (slot_of_plain v ∷ [])); differ = λ d. tt })

pub flat_null_accepted : (k : TypeTree) (xs new : List Slot) → new ≡ xs ++ slots.null ∷ [] → Accepted items.null (flat k xs) (flat k new)
flat_null_accepted k xs new e = rw e (record { exact = refl; last = refl; complete = tt; undo = ap (flat k) (take-append_seam xs (slots.null ∷ [])); differ = λ d. tt })

-- A list accepted items and added their row.
pub list_accepted : (large : Bool) (k : TypeTree) (rows new : List Row) (c d : BuilderTree) (xs : List Item) (end : ℕ) → end ≡ builder_len d → new ≡ rows ++ row_ending true end ∷ []
    → IsComplete (list large k rows c) → AcceptedAll xs c d → Accepted (items.list_of (seal_items xs)) (list large k rows c) (list large k new d)
list_accepted large k rows new c d xs end e f w a =
    let ss = map slot_of_item xs in
    let at_end : end_from 0 rows ≡ length (own_slots c) = sym w.2 ∙ sym (own-length c) in
    let all : builder_len d ≡ length (own_slots c ++ ss) = sym (own-length d) ∙ ap length a.last in
    let longer : end_from 0 rows ≤ builder_len d = omega (arith, len-accepted_all xs c d a, w.2) in
    rw (f, e) (record {
      exact = rw (a.exact, appended-sealed xs c) refl;
      last = rw (slots-sealed xs, items-push 0 rows (row_ending true (builder_len d)) (own_slots d), a.last, items-longer 0 rows (own_slots c) ss w.3 (omega arith), all, cut-rest (own_slots c) ss (end_from 0 rows) at_end) refl;
      complete = (a.complete, w.1 ∙ ap Some (sym (type-accepted_all xs c d a)), sym (end_from-push 0 rows (row_ending true (builder_len d))), RisesFrom-push 0 rows (row_ending true (builder_len d)) w.3 longer);
      undo = rw (take-append_seam rows (row_ending true (builder_len d) ∷ []), ← w.2, a.undo) refl;
      differ = a.differ;
    })

-- a null row has no items
pub list_null_accepted : (large : Bool) (k : TypeTree) (rows new : List Row) (c : BuilderTree) (end : ℕ) → end ≡ end_from 0 rows → new ≡ rows ++ row_ending false end ∷ []
    → IsComplete (list large k rows c) → Accepted items.null (list large k rows c) (list large k new c)
list_null_accepted large k rows new c end e f w = rw (f, e) (record {
  exact = refl;
  last = items-push 0 rows (row_ending false (end_from 0 rows)) (own_slots c);
  complete = (w.0, w.1, w.2 ∙ sym (end_from-push 0 rows (row_ending false (end_from 0 rows))), RisesFrom-push 0 rows (row_ending false (end_from 0 rows)) w.3 (omega arith));
  undo = rw (take-append_seam rows (row_ending false (end_from 0 rows) ∷ []), ← w.2, cut-complete c w.0) refl;
  differ = λ d. d;
})

-- a refused row whose items were removed
pub list_undone : (large : Bool) (k : TypeTree) (rows new : List Row) (c d e : BuilderTree) (n : ℕ) → new ≡ rows → n ≡ builder_len c → e ≡ truncate_builder d n → truncate_builder d (builder_len c) ≡ c
    → list large k new e ≡ list large k rows c
list_undone large k rows new c d e n p q r u = rw (p, r, q, u) refl

-- A fixed-size list accepted as many items as its size and added their row.
pub fixed_size_list_accepted : (k : TypeTree) (bits new : List Bool) (c d : BuilderTree) (xs : List Item) → length xs ≡ size_of k → new ≡ bits ++ true ∷ []
    → IsComplete (fixed_size_list k bits c) → AcceptedAll xs c d → Accepted (items.list_of (seal_items xs)) (fixed_size_list k bits c) (fixed_size_list k new d)
fixed_size_list_accepted k bits new c d xs n f w a =
    let ss = map slot_of_item xs in
    let at_end : 0 + length bits * size_of k ≡ length (own_slots c) = omega (arith, w.2, own-length c) in
    let count : length ss ≡ size_of k = length-map xs slot_of_item ∙ n in
    rw f (record {
      exact = rw (a.exact, appended-sealed xs c) refl;
      last = rw (slots-sealed xs, size-push 0 (size_of k) bits true (own_slots d), a.last, size-longer 0 (size_of k) bits (own_slots c) ss (omega arith), cut-last (own_slots c) ss (0 + length bits * size_of k) (size_of k) at_end count) refl;
      complete = (a.complete, w.1 ∙ ap Some (sym (type-accepted_all xs c d a)), rw (length_push bits true) (omega (arith, len-accepted_all xs c d a, w.2, n, add-mul (length bits) 1 (size_of k))));
      undo = rw (take-append_seam bits (true ∷ []), ← w.2, a.undo) refl;
      differ = a.differ;
    })

pub fixed_size_list_undone : (k : TypeTree) (bits new : List Bool) (c d e : BuilderTree) (n : ℕ) → new ≡ bits → n ≡ builder_len c → e ≡ truncate_builder d n → truncate_builder d (builder_len c) ≡ c
    → fixed_size_list k new e ≡ fixed_size_list k bits c
fixed_size_list_undone k bits new c d e n p q r u = rw (p, r, q, u) refl

-- nulls after nulls
replicate-more : {A : Type 0} (xs : List A) (m n : ℕ) (x : A) → (xs ++ replicate m x) ++ replicate n x ≡ xs ++ replicate (m + n) x
replicate-more xs m n x = rw (append_assoc xs (replicate m x) (replicate n x), replicate-append-replicate m n x) refl

mutual
  pub nulls-zero : (t : BuilderTree) → nulls_appended 0 t ≡ t
  nulls-zero (flat k xs) = ap (flat k) (append-nil xs)
  nulls-zero (list large k rows c) = ap (λ rs. list large k rs c) (append-nil rows)
  nulls-zero (fixed_size_list k bits c) = rw (append-nil bits, zero-mul (size_of k), nulls-zero c) refl
  nulls-zero (dictionary i k keys c) = ap (λ ks. dictionary i k ks c) (append-nil keys)
  nulls-zero (struct k bits cs) = rw (append-nil bits, nulls-zero-each cs) refl

  nulls-zero-each : (cs : BuilderTrees) → nulls_appended_each 0 cs ≡ cs
  nulls-zero-each no_builders = refl
  nulls-zero-each (more_builders c cs) = rw (nulls-zero c, nulls-zero-each cs) refl

mutual
  pub nulls-more : (t : BuilderTree) (m n : ℕ) → nulls_appended n (nulls_appended m t) ≡ nulls_appended (m + n) t
  nulls-more (flat k xs) m n = ap (flat k) (replicate-more xs m n slots.null)
  nulls-more (list large k rows c) m n = rw (end_from-append 0 rows (replicate m (row_ending false (end_from 0 rows))), end_from-same (end_from 0 rows) m, replicate-more rows m n (row_ending false (end_from 0 rows))) refl
  nulls-more (fixed_size_list k bits c) m n = rw (replicate-more bits m n false, nulls-more c (m * size_of k) (n * size_of k), ← (add-mul m n (size_of k))) refl
  nulls-more (dictionary i k keys c) m n = ap (λ ks. dictionary i k ks c) (replicate-more keys m n None)
  nulls-more (struct k bits cs) m n = rw (replicate-more bits m n false, nulls-more-each cs m n) refl

  nulls-more-each : (cs : BuilderTrees) (m n : ℕ) → nulls_appended_each n (nulls_appended_each m cs) ≡ nulls_appended_each (m + n) cs
  nulls-more-each no_builders m n = refl
  nulls-more-each (more_builders c cs) m n = rw (nulls-more c m n, nulls-more-each cs m n) refl

pub nulls-all : (n : ℕ) (t : BuilderTree) → all_appended (replicate n items.null) t ≡ nulls_appended n t
nulls-all zero t = sym (nulls-zero t)
nulls-all (suc n) t = nulls-all n (nulls_appended 1 t) ∙ (nulls-more t 1 n ∙ ap (λ k. nulls_appended k t) (omega arith))

-- a null row of a fixed-size list whose child has the row's nulls
pub fixed_size_list_null_accepted : (k : TypeTree) (bits new : List Bool) (c d : BuilderTree) → new ≡ bits ++ false ∷ [] → IsComplete (fixed_size_list k bits c) → AcceptedAll (replicate (size_of k) items.null) c d
    → Accepted items.null (fixed_size_list k bits c) (fixed_size_list k new d)
fixed_size_list_null_accepted k bits new c d f w a =
    let ss = map slot_of_item (replicate (size_of k) items.null) in
    let at_end : 0 + length bits * size_of k ≡ length (own_slots c) = omega (arith, w.2, own-length c) in
    rw f (record {
      exact = rw (a.exact, nulls-all (size_of k) c, one-mul (size_of k)) refl;
      last = rw (size-push 0 (size_of k) bits false (own_slots d), a.last, size-longer 0 (size_of k) bits (own_slots c) ss (omega arith)) refl;
      complete = (a.complete, w.1 ∙ ap Some (sym (type-accepted_all (replicate (size_of k) items.null) c d a)), rw (length_push bits false) (omega (arith, len-accepted_all (replicate (size_of k) items.null) c d a, w.2, length-replicate (size_of k) items.null, add-mul (length bits) 1 (size_of k))));
      undo = rw (take-append_seam bits (false ∷ []), ← w.2, a.undo) refl;
      differ = a.differ;
    })

-- a null key adds no value
pub dictionary_null_accepted : (i : IntegerType) (k : TypeTree) (keys new : List (Option ℕ)) (c : BuilderTree) → new ≡ keys ++ None ∷ [] → IsComplete (dictionary i k keys c)
    → Accepted items.null (dictionary i k keys c) (dictionary i k new c)
dictionary_null_accepted i k keys new c e w = rw e (record {
  exact = refl;
  last = map_push (value_at (own_slots c)) keys None;
  complete = (w.0, w.1, w.2 ∙ sym (values_needed-nulls keys 1));
  undo = rw (take-append_seam keys (None ∷ []), ← w.2, cut-complete c w.0) refl;
  differ = λ d. d;
})

-- a null struct whose children each have its null
each-nulls : (cs ds : BuilderTrees) → EachAccepted items.null cs ds → ds ≡ nulls_appended_each 1 cs
each-nulls no_builders no_builders h = refl
each-nulls no_builders (more_builders d ds) h = absurd h
each-nulls (more_builders c cs) no_builders h = absurd h
each-nulls (more_builders c cs) (more_builders d ds) h = rw (h.0.exact, each-nulls cs ds h.1) refl

pub each-types : (x : Item) (cs ds : BuilderTrees) → EachAccepted x cs ds → builder_types ds ≡ builder_types cs
each-types x no_builders no_builders h = refl
each-types x no_builders (more_builders d ds) h = absurd h
each-types x (more_builders c cs) no_builders h = absurd h
each-types x (more_builders c cs) (more_builders d ds) h = rw (type-accepted x c d h.0, each-types x cs ds h.1) refl

pub each-complete : (x : Item) (cs ds : BuilderTrees) (n m : ℕ) → m ≡ n + 1 → EachAccepted x cs ds → AreComplete cs n → AreComplete ds m
each-complete x no_builders no_builders n m e h w = tt
each-complete x no_builders (more_builders d ds) n m e h w = absurd h
each-complete x (more_builders c cs) no_builders n m e h w = absurd h
each-complete x (more_builders c cs) (more_builders d ds) n m e h w = (h.0.complete, omega (arith, len-accepted x c d h.0, w.1), each-complete x cs ds n m e h.1 w.2)

pub each-undone : (x : Item) (cs ds : BuilderTrees) (n : ℕ) → EachAccepted x cs ds → AreComplete cs n → truncate_builders ds n ≡ cs
each-undone x no_builders no_builders n h w = refl
each-undone x no_builders (more_builders d ds) n h w = absurd h
each-undone x (more_builders c cs) no_builders n h w = absurd h
each-undone x (more_builders c cs) (more_builders d ds) n h w = rw (each-undone x cs ds n h.1 w.2, ← w.1, h.0.undo) refl

each-differ : (x : Item) (cs ds : BuilderTrees) → EachAccepted x cs ds → ValuesDifferEach cs → ValuesDifferEach ds
each-differ x no_builders no_builders h v = tt
each-differ x no_builders (more_builders d ds) h v = absurd h
each-differ x (more_builders c cs) no_builders h v = absurd h
each-differ x (more_builders c cs) (more_builders d ds) h v = (h.0.differ v.0, each-differ x cs ds h.1 v.1)

each-record : (x : Item) (cs ds : BuilderTrees) (n i : ℕ) → i < n → EachAccepted x cs ds → AreComplete cs n → record_at i (own_slots_each ds) ≡ record_at i (own_slots_each cs)
each-record x no_builders no_builders n i l h w = refl
each-record x no_builders (more_builders d ds) n i l h w = absurd h
each-record x (more_builders c cs) no_builders n i l h w = absurd h
each-record x (more_builders c cs) (more_builders d ds) n i l h w =
    rw (h.0.last, get_or_append_left (own_slots c) (slot_of_item x ∷ []) slots.null i (omega (arith, own-length c, w.1)), each-record x cs ds n i l h.1 w.2) refl

each-records : (x : Item) (cs ds : BuilderTrees) (n i : ℕ) (bits : List Bool) → i + length bits ≤ n → EachAccepted x cs ds → AreComplete cs n → rows_of_records i bits (own_slots_each ds) ≡ rows_of_records i bits (own_slots_each cs)
each-records x cs ds n i [] l h w = refl
each-records x cs ds n i (b ∷ bs) l h w = rw (each-record x cs ds n i (omega arith) h w, each-records x cs ds n (suc i) bs (omega arith) h w) refl

pub struct_null_accepted : (k : TypeTree) (bits new : List Bool) (cs ds : BuilderTrees) → new ≡ bits ++ false ∷ [] → IsComplete (struct k bits cs) → EachAccepted items.null cs ds
    → Accepted items.null (struct k bits cs) (struct k new ds)
struct_null_accepted k bits new cs ds e w h = rw e (record {
  exact = rw (each-nulls cs ds h) refl;
  last = rw (records-push 0 bits false (own_slots_each ds), each-records items.null cs ds (length bits) 0 bits (omega arith) h w.0) refl;
  complete = (each-complete items.null cs ds (length bits) (length (bits ++ false ∷ [])) (length_push bits false) h w.0, each-types items.null cs ds h ∙ w.1);
  undo = rw (take-append_seam bits (false ∷ []), each-undone items.null cs ds (length bits) h w.0) refl;
  differ = each-differ items.null cs ds h;
})
