-- A push that no check refuses appends its item, to builders of any nesting.
use Rattle.std.specs.Prelude.{Option, Some, None, not, ◌&&◌, nat_eq, if◌then◌else◌, leb, is_some}
use Rattle.std.proofs.Common.{◌≡◌, ℕ, zero, suc, ◌+◌, ◌*◌, Bool, true, false, List, [], ◌∷◌, ◌++◌, length, replicate, refl, sym, ap, subst, ◌∙◌, arith}
use Rattle.std.proofs.lemmas.Bool.{eqb-true}
use Rattle.std.proofs.Math.Nat.{add-mul}
use Rattle.std.proofs.lemmas.List.{append_assoc, length-append, length-replicate, replicate-append-replicate}
use Rattle.nest_memory.specs.TypeTree.{TypeTree, size_of}
use Rattle.nest_memory.specs.declared.error.Error.{Error}
use Rattle.nest_memory.specs.declared.error.Error.TheVariants.{InvalidArgumentError, Overflow}
use Rattle.nest_memory.specs.declared.error.ArgumentError.TheVariants.{ItemSize, ItemType}
use Rattle.nest_memory.specs.declared.datatypes.IntegerType.{IntegerType}
use Rattle.nest_model.specs.Slot as slots
use Rattle.nest_model.specs.Slot.{Slot}
use Rattle.nest_model.specs.Checks.{refuse_if, first_of, is_past}
use Rattle.nest_model.specs.Decide.{refuse-none, first-none, not-false}
use Rattle.nest_model.specs.BuilderRow.{Row, row_ending, end_from}
use Rattle.nest_model.specs.BuilderTree.{BuilderTree, BuilderTrees, flat, list, fixed_size_list, dictionary, struct, no_builders, more_builders, builder_len, key_count}
use Rattle.nest_model.specs.BuilderLevels.{own_slots}
use Rattle.nest_model.specs.BuilderComplete.{IsComplete, AreComplete}
use Rattle.nest_model.specs.BuilderItem as items
use Rattle.nest_model.specs.BuilderItem.{PlainValue, Item, Items, no_items, more_items, seal_items, unseal_items, count_items, slot_of_plain, takes, position_of}
use Rattle.nest_model.specs.BuilderAppend.{nulls_appended, nulls_appended_each, keyed, value_appended, appended, items_appended, Accepted, AcceptedAll, EachAccepted}
use Rattle.nest_model.specs.BuilderRefusals.{is_known, value_refusal, plain_refusal, item_refusal, items_refusal}
use Rattle.nest_model.specs.BuilderRowLaws.{end_from-append, end_from-same, RisesFrom-append, RisesFrom-same, values_needed-nulls}
use Rattle.nest_model.specs.BuilderAppendLaws.{type-nulls, types-nulls, accepted_none, accepted_one, accepted_both, count-sealed, nulls-zero, flat_accepted, flat_null_accepted, list_accepted, list_null_accepted, fixed_size_list_accepted, fixed_size_list_null_accepted, dictionary_null_accepted, struct_null_accepted}
use Rattle.nest_model.specs.BuilderKeyLaws.{dictionary_key_added, dictionary_accepted}

-- lengths after n more nulls
pub len-nulls : (n : ℕ) (t : BuilderTree) → builder_len (nulls_appended n t) ≡ builder_len t + n
len-nulls n (flat k xs) = omega (arith, length-append xs (replicate n slots.null), length-replicate n slots.null)
len-nulls n (list large k rows c) = omega (arith, length-append rows (replicate n (row_ending false (end_from 0 rows))), length-replicate n (row_ending false (end_from 0 rows)))
len-nulls n (fixed_size_list k bits c) = omega (arith, length-append bits (replicate n false), length-replicate n false)
len-nulls n (dictionary i k keys c) = omega (arith, length-append keys (replicate n None), length-replicate {A = Option ℕ} n None)
len-nulls n (struct k bits cs) = omega (arith, length-append bits (replicate n false), length-replicate n false)

pub end-nulls : (rows : List Row) (n : ℕ) → end_from 0 (rows ++ replicate n (row_ending false (end_from 0 rows))) ≡ end_from 0 rows
end-nulls rows n = end_from-append 0 rows (replicate n (row_ending false (end_from 0 rows))) ∙ end_from-same (end_from 0 rows) n

mutual
  pub complete-nulls : (n : ℕ) (t : BuilderTree) → IsComplete t → IsComplete (nulls_appended n t)
  complete-nulls n (flat k xs) w = tt
  complete-nulls n (list large k rows c) w =
      (w.0, w.1, w.2 ∙ sym (end-nulls rows n), RisesFrom-append 0 rows (replicate n (row_ending false (end_from 0 rows))) w.3 (RisesFrom-same (end_from 0 rows) n))
  complete-nulls n (fixed_size_list k bits c) w = (
    complete-nulls (n * size_of k) c w.0,
    w.1 ∙ ap Some (sym (type-nulls (n * size_of k) c)),
    rw (len-nulls (n * size_of k) c, length-append bits (replicate n false), length-replicate n false) (omega (arith, w.2, add-mul (length bits) n (size_of k))),
  )
  complete-nulls n (dictionary i k keys c) w = (w.0, w.1, w.2 ∙ sym (values_needed-nulls keys n))
  complete-nulls n (struct k bits cs) w =
      (rw (length-append bits (replicate n false), length-replicate n false) (complete-nulls-each n cs (length bits) w.0), types-nulls n cs ∙ w.1)

  complete-nulls-each : (n : ℕ) (cs : BuilderTrees) (m : ℕ) → AreComplete cs m → AreComplete (nulls_appended_each n cs) (m + n)
  complete-nulls-each n no_builders m w = tt
  complete-nulls-each n (more_builders c cs) m w = (complete-nulls n c w.0, omega (arith, len-nulls n c, w.1), complete-nulls-each n cs m w.2)

-- nulls that are accepted one at a time are accepted together
many : (t : BuilderTree) (m n : ℕ) → IsComplete t → ((k : ℕ) → Accepted items.null (nulls_appended k t) (nulls_appended (k + 1) t)) → AcceptedAll (replicate n items.null) (nulls_appended m t) (nulls_appended (m + n) t)
many t m zero w step = let e : m ≡ m + 0 = omega arith in subst (λ k. AcceptedAll [] (nulls_appended m t) (nulls_appended k t)) e (accepted_none (nulls_appended m t) (complete-nulls m t w))
many t m (suc n) w step =
    let e : m + 1 + n ≡ m + suc n = omega arith in
    let rest = subst (λ k. AcceptedAll (replicate n items.null) (nulls_appended (m + 1) t) (nulls_appended k t)) e (many t (m + 1) n w step) in
    accepted_both (items.null ∷ []) (replicate n items.null) (nulls_appended m t) (nulls_appended (m + 1) t) (nulls_appended (m + suc n) t)
    (accepted_one items.null (nulls_appended m t) (nulls_appended (m + 1) t) (complete-nulls m t w) (step m)) rest

one-more : {A : Type 0} (xs : List A) (m : ℕ) (x : A) → xs ++ replicate (m + 1) x ≡ (xs ++ replicate m x) ++ x ∷ []
one-more xs m x = ap (λ ys. xs ++ ys) (sym (replicate-append-replicate m 1 x)) ∙ sym (append_assoc xs (replicate m x) (x ∷ []))

mutual
  next-null : (t : BuilderTree) (m : ℕ) → IsComplete t → Accepted items.null (nulls_appended m t) (nulls_appended (m + 1) t)
  next-null (flat k xs) m w = flat_null_accepted k (xs ++ replicate m slots.null) (xs ++ replicate (m + 1) slots.null) (one-more xs m slots.null)
  next-null (list large k rows c) m w =
      list_null_accepted large k (rows ++ replicate m (row_ending false (end_from 0 rows))) (rows ++ replicate (m + 1) (row_ending false (end_from 0 rows))) c (end_from 0 rows)
      (sym (end-nulls rows m)) (one-more rows m (row_ending false (end_from 0 rows))) (complete-nulls m (list large k rows c) w)
  next-null (fixed_size_list k bits c) m w =
      let e : m * size_of k + size_of k ≡ (m + 1) * size_of k = omega (arith, add-mul m 1 (size_of k)) in
      fixed_size_list_null_accepted k (bits ++ replicate m false) (bits ++ replicate (m + 1) false) (nulls_appended (m * size_of k) c) (nulls_appended ((m + 1) * size_of k) c)
      (one-more bits m false) (complete-nulls m (fixed_size_list k bits c) w)
      (subst (λ n. AcceptedAll (replicate (size_of k) items.null) (nulls_appended (m * size_of k) c) (nulls_appended n c)) e (many c (m * size_of k) (size_of k) w.0 (λ j. next-null c j w.0)))
  next-null (dictionary i k keys c) m w = dictionary_null_accepted i k (keys ++ replicate m None) (keys ++ replicate (m + 1) None) c (one-more keys m None) (complete-nulls m (dictionary i k keys c) w)
  next-null (struct k bits cs) m w =
      struct_null_accepted k (bits ++ replicate m false) (bits ++ replicate (m + 1) false) (nulls_appended_each m cs) (nulls_appended_each (m + 1) cs)
      (one-more bits m false) (complete-nulls m (struct k bits cs) w) (next-null-each cs m (length bits) w.0)

  next-null-each : (cs : BuilderTrees) (m n : ℕ) → AreComplete cs n → EachAccepted items.null (nulls_appended_each m cs) (nulls_appended_each (m + 1) cs)
  next-null-each no_builders m n w = tt
  next-null-each (more_builders c cs) m n w = (next-null c m w.0, next-null-each cs m n w.2)

-- a complete builder accepts one null, and any number of nulls
pub accepted-null : (t : BuilderTree) → IsComplete t → Accepted items.null t (nulls_appended 1 t)
accepted-null t w = subst (λ u. Accepted items.null u (nulls_appended 1 t)) (nulls-zero t) (next-null t 0 w)

pub accepted-nulls : (t : BuilderTree) (n : ℕ) → IsComplete t → AcceptedAll (replicate n items.null) t (nulls_appended n t)
accepted-nulls t n w =
    let e : 0 + n ≡ n = omega arith in
    let all = subst (λ m. AcceptedAll (replicate n items.null) (nulls_appended 0 t) (nulls_appended m t)) e (many t 0 n w (λ j. next-null t j w)) in
    subst (λ u. AcceptedAll (replicate n items.null) u (nulls_appended n t)) (nulls-zero t) all

pub some_none : {A : Type 0} (x : A) → Some x ≡ None → ⊥
some_none x e = absurd (let a : Some x ≡ None = e in cc)

-- a value that no check refuses is accepted
key_taken : (b : Bool) (known full : Bool) (rest own : Option Error) → (known ≡ true → b ≡ true) → first_of (if known then None else refuse_if full Overflow (refuse_if (not b) (InvalidArgumentError ItemType) rest)) own ≡ None → b ≡ true
key_taken b true full rest own f h = f refl
key_taken b false full rest own f h =
    not-false b (refuse-none (not b) (InvalidArgumentError ItemType) rest (refuse-none full Overflow (refuse_if (not b) (InvalidArgumentError ItemType) rest) ((first-none (refuse_if full Overflow (refuse_if (not b) (InvalidArgumentError ItemType) rest)) own h).0)).1).0

and-front : (a b : Bool) → (a && b) ≡ true → a ≡ true
and-front true b h = refl
and-front false b h = h

pub value-taken : (v : PlainValue) (t : BuilderTree) → value_refusal v t ≡ None → takes t v ≡ true
value-taken v (flat k xs) h = not-false (takes (flat k xs) v) (refuse-none (not (takes (flat k xs) v)) (InvalidArgumentError ItemType) _ h).0
value-taken v (list large k rows c) h = absurd (some_none (InvalidArgumentError ItemType) h)
value-taken v (fixed_size_list k bits c) h = absurd (some_none (InvalidArgumentError ItemType) h)
value-taken v (dictionary i k keys c) h =
    key_taken (takes c v) (is_known c v) (leb (key_count i) (builder_len c)) (value_refusal v c) (refuse_if (is_past (length keys + 1)) Overflow None) (and-front (takes c v) (is_some (position_of v (own_slots c)))) h
value-taken v (struct k bits cs) h = absurd (some_none (InvalidArgumentError ItemType) h)

-- `plain_refusal` and `value_refusal` refuse the same values
pub plain-none : (v : PlainValue) (t : BuilderTree) → value_refusal v t ≡ None → plain_refusal v t ≡ None
plain-none v t h = rw (value-taken v t h, h) refl

pub none-plain : (v : PlainValue) (t : BuilderTree) → plain_refusal v t ≡ None → value_refusal v t ≡ None
none-plain v t h = (refuse-none (not (takes t v)) (InvalidArgumentError ItemType) (value_refusal v t) h).1

-- a value that no check refuses is appended
pub new_refused : (known full other : Bool) (rest own : Option Error) → known ≡ false → first_of (if known then None else refuse_if full Overflow (refuse_if other (InvalidArgumentError ItemType) rest)) own ≡ None → rest ≡ None
new_refused true full other rest own e h = absurd (let a : true ≡ false = e in cc)
new_refused false full other rest own e h =
    (refuse-none other (InvalidArgumentError ItemType) rest (refuse-none full Overflow (refuse_if other (InvalidArgumentError ItemType) rest) ((first-none (refuse_if full Overflow (refuse_if other (InvalidArgumentError ItemType) rest)) own h).0)).1).1

pub unknown : (a : Bool) (o : Option ℕ) → o ≡ None → (a && is_some o) ≡ false
unknown true o e = rw e refl
unknown false o e = refl

key : (v : PlainValue) (i : IntegerType) (k : TypeTree) (keys : List (Option ℕ)) (c d : BuilderTree) (o : Option ℕ) → position_of v (own_slots c) ≡ o → IsComplete (dictionary i k keys c)
    → (position_of v (own_slots c) ≡ None → Accepted (items.plain v) c d) → Accepted (items.plain v) (dictionary i k keys c) (keyed i k keys c d o)
key v i k keys c d (Some j) e w h = dictionary_key_added i k keys _ c v j e refl w
key v i k keys c d None e w h = dictionary_accepted i k keys _ c d v e refl w (h e)

pub accepted-value : (v : PlainValue) (t : BuilderTree) → IsComplete t → value_refusal v t ≡ None → Accepted (items.plain v) t (value_appended v t)
accepted-value v (flat k xs) w h = flat_accepted k xs _ v refl
accepted-value v (list large k rows c) w h = absurd (some_none (InvalidArgumentError ItemType) h)
accepted-value v (fixed_size_list k bits c) w h = absurd (some_none (InvalidArgumentError ItemType) h)
accepted-value v (dictionary i k keys c) w h =
    key v i k keys c (value_appended v c) (position_of v (own_slots c)) refl w
    (λ p. accepted-value v c w.0 (new_refused (is_known c v) (leb (key_count i) (builder_len c)) (not (takes c v)) (value_refusal v c) (refuse_if (is_past (length keys + 1)) Overflow None) (unknown (takes c v) (position_of v (own_slots c)) p) h))
accepted-value v (struct k bits cs) w h = absurd (some_none (InvalidArgumentError ItemType) h)

-- an item that no check refuses is appended
pub seal-unseal : (xs : Items) → seal_items (unseal_items xs) ≡ xs
seal-unseal no_items = refl
seal-unseal (more_items x xs) = ap (more_items x) (seal-unseal xs)

pub accepted-row : (large : Bool) (k : TypeTree) (rows : List Row) (c : BuilderTree) (xs : Items) → IsComplete (list large k rows c) → AcceptedAll (unseal_items xs) c (items_appended xs c)
    → Accepted (items.list_of xs) (list large k rows c) (appended (items.list_of xs) (list large k rows c))
accepted-row large k rows c xs w a =
    let d = items_appended xs c in
    subst (λ ys. Accepted (items.list_of ys) (list large k rows c) (list large k (rows ++ row_ending true (builder_len d) ∷ []) d)) (seal-unseal xs)
    (list_accepted large k rows (rows ++ row_ending true (builder_len d) ∷ []) c d (unseal_items xs) (builder_len d) refl refl w a)

count-unsealed : (xs : Items) → length (unseal_items xs) ≡ count_items xs
count-unsealed xs = sym (count-sealed (unseal_items xs)) ∙ ap count_items (seal-unseal xs)

pub accepted-fixed : (k : TypeTree) (bits : List Bool) (c : BuilderTree) (xs : Items) → not (nat_eq (count_items xs) (size_of k)) ≡ false → IsComplete (fixed_size_list k bits c) → AcceptedAll (unseal_items xs) c (items_appended xs c)
    → Accepted (items.list_of xs) (fixed_size_list k bits c) (appended (items.list_of xs) (fixed_size_list k bits c))
accepted-fixed k bits c xs n w a =
    let d = items_appended xs c in
    let m : count_items xs ≡ size_of k = eqb-true (count_items xs) (size_of k) (not-false (nat_eq (count_items xs) (size_of k)) n) in
    subst (λ ys. Accepted (items.list_of ys) (fixed_size_list k bits c) (fixed_size_list k (bits ++ true ∷ []) d)) (seal-unseal xs)
    (fixed_size_list_accepted k bits (bits ++ true ∷ []) c d (unseal_items xs) (count-unsealed xs ∙ m) refl w a)

mutual
  pub accepted-item : (x : Item) (t : BuilderTree) → IsComplete t → item_refusal x t ≡ None → Accepted x t (appended x t)
  accepted-item items.null t w h = accepted-null t w
  accepted-item (items.plain v) t w h = accepted-value v t w h
  accepted-item (items.list_of xs) (flat k ss) w h = absurd (some_none (InvalidArgumentError ItemType) h)
  accepted-item (items.list_of xs) (list large k rows c) w h = accepted-row large k rows c xs w (accepted-items xs c w.0 ((first-none (items_refusal xs c) _ h).0))
  accepted-item (items.list_of xs) (fixed_size_list k bits c) w h =
      accepted-fixed k bits c xs (refuse-none (not (nat_eq (count_items xs) (size_of k))) (InvalidArgumentError ItemSize) _ ((first-none (items_refusal xs c) _ h).1)).0 w (accepted-items xs c w.0 ((first-none (items_refusal xs c) _ h).0))
  accepted-item (items.list_of xs) (dictionary i k keys c) w h = absurd (some_none (InvalidArgumentError ItemType) h)
  accepted-item (items.list_of xs) (struct k bits cs) w h = absurd (some_none (InvalidArgumentError ItemType) h)

  pub accepted-items : (xs : Items) (t : BuilderTree) → IsComplete t → items_refusal xs t ≡ None → AcceptedAll (unseal_items xs) t (items_appended xs t)
  accepted-items no_items t w h = accepted_none t w
  accepted-items (more_items x xs) t w h =
      let first = accepted-item x t w ((first-none (item_refusal x t) _ h).0) in
      accepted_both (x ∷ []) (unseal_items xs) t (appended x t) (items_appended xs (appended x t)) (accepted_one x t (appended x t) w first)
      (accepted-items xs (appended x t) first.complete ((first-none (item_refusal x t) _ h).1))
