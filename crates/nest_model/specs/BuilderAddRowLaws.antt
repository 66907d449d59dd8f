-- The result of adding a row over pending items.
use Rattle.std.specs.Prelude.{Option, Some, None}
use Rattle.std.proofs.Common.{◌≡◌, ℕ, ◌+◌, ◌-◌, ◌*◌, Bool, List, [], ◌∷◌, ◌++◌, length, refl, sym, ap, ◌∙◌, arith}
use Rattle.std.proofs.Math.Nat.{add-mul}
use Rattle.std.proofs.lemmas.List.{length_push}
use Rattle.nest_memory.specs.TypeTree.{TypeTree, size_of}
use Rattle.nest_model.specs.BuilderRow.{Row, row_ending, end_from, RisesFrom}
use Rattle.nest_model.specs.BuilderTree.{BuilderTree, BuilderTrees, flat, list, fixed_size_list, dictionary, struct, builder_len}
use Rattle.nest_model.specs.BuilderLevels.{own_slots, own_slots_each}
use Rattle.nest_model.specs.BuilderAddRow.{with_row, rows_of_lengths, items_of_lengths, IsReady, RowAdded, RowsAdded}
use Rattle.nest_model.specs.BuilderRowLaws.{end_from-push, end_from-append, RisesFrom-push, RisesFrom-append}
use Rattle.nest_model.specs.BuilderLevelLaws.{own-length, cut-all_after, items-push, items-append, size-push, records-push}

-- a row of a list
pub list_row_added : (valid : Bool) (large : Bool) (k : TypeTree) (rows new : List Row) (c : BuilderTree) (end : ℕ) → end ≡ builder_len c → new ≡ rows ++ row_ending valid end ∷ [] → IsReady (list large k rows c)
    → RowAdded valid (list large k rows c) (list large k new c)
list_row_added valid large k rows new c end e f w =
    let rest : end_from 0 rows + (builder_len c - end_from 0 rows) ≡ length (own_slots c) = omega (arith, own-length c, w.2) in
    rw (f, e) (record {
      exact = refl;
      last = rw (items-push 0 rows (row_ending valid (builder_len c)) (own_slots c), cut-all_after (own_slots c) (end_from 0 rows) (builder_len c - end_from 0 rows) rest) refl;
      below = refl;
      complete = (w.0, w.1, sym (end_from-push 0 rows (row_ending valid (builder_len c))), RisesFrom-push 0 rows (row_ending valid (builder_len c)) w.3 w.2);
      differ = λ d. d;
    })

-- a row of a fixed-size list
pub fixed_size_list_row_added : (valid : Bool) (k : TypeTree) (bits new : List Bool) (c : BuilderTree) → new ≡ bits ++ valid ∷ [] → IsReady (fixed_size_list k bits c) → RowAdded valid (fixed_size_list k bits c) (fixed_size_list k new c)
fixed_size_list_row_added valid k bits new c f w =
    let rest : 0 + length bits * size_of k + size_of k ≡ length (own_slots c) = omega (arith, own-length c, w.2, add-mul (length bits) 1 (size_of k)) in
    let from : 0 + length bits * size_of k ≡ length bits * size_of k = omega arith in
    rw f (record {
      exact = refl;
      last = rw (size-push 0 (size_of k) bits valid (own_slots c), cut-all_after (own_slots c) (0 + length bits * size_of k) (size_of k) rest, from) refl;
      below = refl;
      complete = (w.0, w.1, rw (length_push bits valid) (omega (arith, w.2)));
      differ = λ d. d;
    })

-- a row of a struct
pub struct_row_added : (valid : Bool) (k : TypeTree) (bits new : List Bool) (cs : BuilderTrees) → new ≡ bits ++ valid ∷ [] → IsReady (struct k bits cs) → RowAdded valid (struct k bits cs) (struct k new cs)
struct_row_added valid k bits new cs f w =
    let from : 0 + length bits ≡ length bits = omega arith in
    rw f (record {
      exact = refl;
      last = rw (records-push 0 bits valid (own_slots_each cs), from) refl;
      below = refl;
      complete = (rw (length_push bits valid) w.0, w.1);
      differ = λ d. d;
    })

-- a row of any builder whose pending items make a row
pub with_row-ready : (valid : Bool) (t : BuilderTree) → IsReady t → RowAdded valid t (with_row valid t)
with_row-ready valid (flat k xs) w = absurd w
with_row-ready valid (list large k rows c) w = list_row_added valid large k rows (rows ++ row_ending valid (builder_len c) ∷ []) c (builder_len c) refl refl w
with_row-ready valid (fixed_size_list k bits c) w = fixed_size_list_row_added valid k bits (bits ++ valid ∷ []) c refl w
with_row-ready valid (dictionary i k keys c) w = absurd w
with_row-ready valid (struct k bits cs) w = struct_row_added valid k bits (bits ++ valid ∷ []) cs refl w

-- rows by their lengths
pub end_from-lengths : (s : ℕ) (ns : List (Option ℕ)) → end_from s (rows_of_lengths s ns) ≡ s + items_of_lengths ns
end_from-lengths s [] = omega arith
end_from-lengths s (None ∷ ns) = end_from-lengths s ns
end_from-lengths s (Some n ∷ ns) = omega (arith, end_from-lengths (s + n) ns)

pub items_of_lengths-push : (ns : List (Option ℕ)) (n : ℕ) → items_of_lengths (ns ++ Some n ∷ []) ≡ items_of_lengths ns + n
items_of_lengths-push [] n = omega arith
items_of_lengths-push (None ∷ ns) n = items_of_lengths-push ns n
items_of_lengths-push (Some m ∷ ns) n = omega (arith, items_of_lengths-push ns n)

pub items_of_lengths-push_null : (ns : List (Option ℕ)) → items_of_lengths (ns ++ None ∷ []) ≡ items_of_lengths ns
items_of_lengths-push_null [] = refl
items_of_lengths-push_null (None ∷ ns) = items_of_lengths-push_null ns
items_of_lengths-push_null (Some m ∷ ns) = ap (λ k. m + k) (items_of_lengths-push_null ns)

RisesFrom-lengths : (s : ℕ) (ns : List (Option ℕ)) → RisesFrom s (rows_of_lengths s ns)
RisesFrom-lengths s [] = tt
RisesFrom-lengths s (None ∷ ns) = (omega arith, RisesFrom-lengths s ns)
RisesFrom-lengths s (Some n ∷ ns) = (omega arith, RisesFrom-lengths (s + n) ns)

pub list_rows_added : (ns : List (Option ℕ)) (large : Bool) (k : TypeTree) (rows new : List Row) (c : BuilderTree) → new ≡ rows ++ rows_of_lengths (end_from 0 rows) ns → end_from 0 rows + items_of_lengths ns ≡ builder_len c
    → IsReady (list large k rows c) → RowsAdded ns (list large k rows c) (list large k new c)
list_rows_added ns large k rows new c f n w =
    let more = rows_of_lengths (end_from 0 rows) ns in
    rw f (record {
      exact = refl;
      last = items-append 0 rows more (own_slots c);
      below = refl;
      complete = (w.0, w.1, sym n ∙ sym (end_from-lengths (end_from 0 rows) ns) ∙ sym (end_from-append 0 rows more), RisesFrom-append 0 rows more w.3 (RisesFrom-lengths (end_from 0 rows) ns));
      differ = λ d. d;
    })
