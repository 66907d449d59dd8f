-- Truncation of a complete builder, level by level.
use Rattle.std.specs.Prelude.{Option, Some}
use Rattle.std.proofs.Common.{◌≡◌, ℕ, suc, ◌*◌, ◌≤◌, ◌<◌, Bool, List, [], ◌∷◌, ◌++◌, length, take, map, refl, sym, ap, ◌∙◌, arith}
use Rattle.std.proofs.Math.Seq.{take-length}
use Rattle.std.proofs.Math.Nat.{mul-le-mul_right, zero-mul}
use Rattle.std.proofs.lemmas.List.{take-take, take-map, length-take, get_or-take, map-append, length-append}
use Rattle.nest_memory.specs.TypeTree.{size_of}
use Rattle.nest_model.specs.Slot as slots
use Rattle.nest_model.specs.Slot.{Slot}
use Rattle.nest_model.specs.BuilderRow.{Row, end_from, RisesFrom, values_needed}
use Rattle.nest_model.specs.BuilderTree.{BuilderTree, BuilderTrees, flat, list, fixed_size_list, dictionary, struct, no_builders, more_builders, builder_type, builder_types, builder_len}
use Rattle.nest_model.specs.BuilderLevels.{value_at, own_slots, own_slots_each, levels, levels_each, rows_needed, rows_needed_each, truncate_levels}
use Rattle.nest_model.specs.BuilderComplete.{IsComplete, AreComplete, truncate_builder, truncate_builders, emptied, emptied_each, AreDifferent, ValuesDiffer, ValuesDifferEach}
use Rattle.nest_model.specs.BuilderRowLaws.{end_from-front, end_from-take-le, RisesFrom-take, values_needed-front, values_needed-take-le}
use Rattle.nest_model.specs.BuilderLevelLaws.{length-front, own-length, items-front, size-front, values-front, records-front}

-- data types do not change
pub type-cut : (t : BuilderTree) (n : ℕ) → builder_type (truncate_builder t n) ≡ builder_type t
type-cut (flat k xs) n = refl
type-cut (list large k rows c) n = refl
type-cut (fixed_size_list k bits c) n = refl
type-cut (dictionary i k keys c) n = refl
type-cut (struct k bits cs) n = refl

pub types-cut : (cs : BuilderTrees) (n : ℕ) → builder_types (truncate_builders cs n) ≡ builder_types cs
types-cut no_builders n = refl
types-cut (more_builders c cs) n = rw (type-cut c n, types-cut cs n) refl

pub len-cut : (t : BuilderTree) (n : ℕ) → n ≤ builder_len t → builder_len (truncate_builder t n) ≡ n
len-cut (flat k xs) n h = length-front n xs h
len-cut (list large k rows c) n h = length-front n rows h
len-cut (fixed_size_list k bits c) n h = length-front n bits h
len-cut (dictionary i k keys c) n h = length-front n keys h
len-cut (struct k bits cs) n h = length-front n bits h

-- truncation to the full length changes nothing
mutual
  pub cut-complete : (t : BuilderTree) → IsComplete t → truncate_builder t (builder_len t) ≡ t
  cut-complete (flat k xs) w = ap (flat k) (take-length xs)
  cut-complete (list large k rows c) w = rw (take-length rows, ← w.2) (ap (list large k rows) (cut-complete c w.0))
  cut-complete (fixed_size_list k bits c) w = rw (take-length bits, ← w.2) (ap (fixed_size_list k bits) (cut-complete c w.0))
  cut-complete (dictionary i k keys c) w = rw (take-length keys, ← w.2) (ap (dictionary i k keys) (cut-complete c w.0))
  cut-complete (struct k bits cs) w = rw (take-length bits) (ap (struct k bits) (cut-complete-each cs (length bits) w.0))

  pub cut-complete-each : (cs : BuilderTrees) (n : ℕ) → AreComplete cs n → truncate_builders cs n ≡ cs
  cut-complete-each no_builders n w = refl
  cut-complete-each (more_builders c cs) n w = rw (cut-complete-each cs n w.2, ← w.1, cut-complete c w.0) refl

-- truncating twice is truncating to the smaller length
mutual
  pub builder-cut-cut : (t : BuilderTree) (m n : ℕ) → IsComplete t → m ≤ n → truncate_builder (truncate_builder t n) m ≡ truncate_builder t m
  builder-cut-cut (flat k xs) m n w h = ap (flat k) (take-take m n xs h)
  builder-cut-cut (list large k rows c) m n w h = rw (take-take m n rows h) (ap (list large k (take m rows)) (builder-cut-cut c _ _ w.0 (end_from-take-le 0 rows m n w.3 h)))
  builder-cut-cut (fixed_size_list k bits c) m n w h = rw (take-take m n bits h) (ap (fixed_size_list k (take m bits)) (builder-cut-cut c (m * size_of k) (n * size_of k) w.0 (mul-le-mul_right (size_of k) h)))
  builder-cut-cut (dictionary i k keys c) m n w h = rw (take-take m n keys h) (ap (dictionary i k (take m keys)) (builder-cut-cut c _ _ w.0 (values_needed-take-le keys m n h)))
  builder-cut-cut (struct k bits cs) m n w h = rw (take-take m n bits h) (ap (struct k (take m bits)) (cut-cut-each cs m n (length bits) w.0 h))

  pub cut-cut-each : (cs : BuilderTrees) (m n l : ℕ) → AreComplete cs l → m ≤ n → truncate_builders (truncate_builders cs n) m ≡ truncate_builders cs m
  cut-cut-each no_builders m n l w h = refl
  cut-cut-each (more_builders c cs) m n l w h = rw (cut-cut-each cs m n l w.2 h, builder-cut-cut c m n w.0 h) refl

-- the items that the first rows need exist
list-within : (rows : List Row) (c : BuilderTree) (n : ℕ) → builder_len c ≡ end_from 0 rows → RisesFrom 0 rows → end_from 0 (take n rows) ≤ builder_len c
list-within rows c n e r = omega (arith, e, end_from-front 0 rows n r)

size-within : (bits : List Bool) (c : BuilderTree) (s n : ℕ) → builder_len c ≡ length bits * s → n ≤ length bits → n * s ≤ builder_len c
size-within bits c s n e h = omega (arith, e, mul-le-mul_right s h)

keys-within : (keys : List (Option ℕ)) (c : BuilderTree) (n : ℕ) → builder_len c ≡ values_needed keys → values_needed (take n keys) ≤ builder_len c
keys-within keys c n e = omega (arith, e, values_needed-front keys n)

-- a truncated complete builder is complete
mutual
  pub complete-cut : (t : BuilderTree) (n : ℕ) → IsComplete t → n ≤ builder_len t → IsComplete (truncate_builder t n)
  complete-cut (flat k xs) n w h = tt
  complete-cut (list large k rows c) n w h =
      let e = end_from 0 (take n rows) in
      let inside : e ≤ builder_len c = list-within rows c n w.2 w.3 in
      (complete-cut c e w.0 inside, w.1 ∙ ap Some (sym (type-cut c e)), len-cut c e inside, RisesFrom-take 0 rows n w.3)
  complete-cut (fixed_size_list k bits c) n w h =
      let e = n * size_of k in
      let inside : e ≤ builder_len c = size-within bits c (size_of k) n w.2 h in
      (complete-cut c e w.0 inside, w.1 ∙ ap Some (sym (type-cut c e)), len-cut c e inside ∙ ap (λ m. m * size_of k) (sym (length-front n bits h)))
  complete-cut (dictionary i k keys c) n w h =
      let e = values_needed (take n keys) in
      let inside : e ≤ builder_len c = keys-within keys c n w.2 in
      (complete-cut c e w.0 inside, rw (type-cut c e) w.1, len-cut c e inside)
  complete-cut (struct k bits cs) n w h = (rw (length-front n bits h) (complete-cut-each cs n (length bits) w.0 h), types-cut cs n ∙ w.1)

  pub complete-cut-each : (cs : BuilderTrees) (n m : ℕ) → AreComplete cs m → n ≤ m → AreComplete (truncate_builders cs n) n
  complete-cut-each no_builders n m w h = tt
  complete-cut-each (more_builders c cs) n m w h =
      let inside : n ≤ builder_len c = omega (arith, w.1) in
      (complete-cut c n w.0 inside, len-cut c n inside, complete-cut-each cs n m w.2 h)

-- the slots of a truncated builder are the first slots
mutual
  pub own-cut : (t : BuilderTree) (n : ℕ) → IsComplete t → n ≤ builder_len t → own_slots (truncate_builder t n) ≡ take n (own_slots t)
  own-cut (flat k xs) n w h = refl
  own-cut (list large k rows c) n w h =
      let e = end_from 0 (take n rows) in
      let inside : e ≤ builder_len c = list-within rows c n w.2 w.3 in
      rw (own-cut c e w.0 inside) (items-front n e rows (own_slots c) (RisesFrom-take 0 rows n w.3) refl (omega (arith, inside, own-length c)))
  own-cut (fixed_size_list k bits c) n w h =
      let e = n * size_of k in
      let inside : e ≤ builder_len c = size-within bits c (size_of k) n w.2 h in
      let same : length (take n bits) * size_of k ≡ e = ap (λ m. m * size_of k) (length-front n bits h) in
      rw (own-cut c e w.0 inside) (size-front n (size_of k) e bits (own_slots c) (omega (arith, same)) (omega (arith, inside, own-length c)))
  own-cut (dictionary i k keys c) n w h =
      let e = values_needed (take n keys) in
      let inside : e ≤ builder_len c = keys-within keys c n w.2 in
      rw (own-cut c e w.0 inside) (values-front e (take n keys) (own_slots c) (omega arith) (omega (arith, inside, own-length c)) ∙ sym (take-map (value_at (own_slots c)) n keys))
  own-cut (struct k bits cs) n w h = rw (own-cut-each cs n (length bits) w.0 h) (records-front 0 n n bits (own_slots_each cs) (omega arith))

  pub own-cut-each : (cs : BuilderTrees) (n m : ℕ) → AreComplete cs m → n ≤ m → own_slots_each (truncate_builders cs n) ≡ map (take n) (own_slots_each cs)
  own-cut-each no_builders n m w h = refl
  own-cut-each (more_builders c cs) n m w h = rw (own-cut c n w.0 (omega (arith, w.1)), own-cut-each cs n m w.2 h) refl

-- there are as many levels as lengths
mutual
  levels-count : (t : BuilderTree) (n : ℕ) → length (rows_needed t n) ≡ length (levels t)
  levels-count (flat k xs) n = refl
  levels-count (list large k rows c) n = ap suc (levels-count c _)
  levels-count (fixed_size_list k bits c) n = ap suc (levels-count c _)
  levels-count (dictionary i k keys c) n = ap suc (levels-count c _)
  levels-count (struct k bits cs) n = ap suc (levels-count-each cs n)

  levels-count-each : (cs : BuilderTrees) (n : ℕ) → length (rows_needed_each cs n) ≡ length (levels_each cs)
  levels-count-each no_builders n = refl
  levels-count-each (more_builders c cs) n =
      omega (arith, length-append (rows_needed c n) (rows_needed_each cs n), length-append (levels c) (levels_each cs), levels-count c n, levels-count-each cs n)

truncate_levels-append : (ns ms : List ℕ) (xss yss : List (List Slot)) → length ns ≡ length xss → truncate_levels (ns ++ ms) (xss ++ yss) ≡ truncate_levels ns xss ++ truncate_levels ms yss
truncate_levels-append [] ms [] yss e = refl
truncate_levels-append [] ms (xs ∷ xss) yss e = absurd (omega (arith, e))
truncate_levels-append (n ∷ ns) ms [] yss e = absurd (omega (arith, e))
truncate_levels-append (n ∷ ns) ms (xs ∷ xss) yss e = ap (λ zss. take n xs ∷ zss) (truncate_levels-append ns ms xss yss (omega (arith, e)))

both : (xs ys : List Slot) (xss yss : List (List Slot)) → xs ≡ ys → xss ≡ yss → xs ∷ xss ≡ ys ∷ yss
both xs ys xss yss e f = cc

-- each level of a truncated builder is that level truncated to the length that the rows need
mutual
  pub levels-cut : (t : BuilderTree) (n : ℕ) → IsComplete t → n ≤ builder_len t → levels (truncate_builder t n) ≡ truncate_levels (rows_needed t n) (levels t)
  levels-cut (flat k xs) n w h = refl
  levels-cut (list large k rows c) n w h = both _ _ _ _ (own-cut (list large k rows c) n w h) (levels-cut c (end_from 0 (take n rows)) w.0 (list-within rows c n w.2 w.3))
  levels-cut (fixed_size_list k bits c) n w h = both _ _ _ _ (own-cut (fixed_size_list k bits c) n w h) (levels-cut c (n * size_of k) w.0 (size-within bits c (size_of k) n w.2 h))
  levels-cut (dictionary i k keys c) n w h = both _ _ _ _ (own-cut (dictionary i k keys c) n w h) (levels-cut c (values_needed (take n keys)) w.0 (keys-within keys c n w.2))
  levels-cut (struct k bits cs) n w h = both _ _ _ _ (own-cut (struct k bits cs) n w h) (levels-cut-each cs n (length bits) w.0 h)

  pub levels-cut-each : (cs : BuilderTrees) (n m : ℕ) → AreComplete cs m → n ≤ m → levels_each (truncate_builders cs n) ≡ truncate_levels (rows_needed_each cs n) (levels_each cs)
  levels-cut-each no_builders n m w h = refl
  levels-cut-each (more_builders c cs) n m w h =
      rw (levels-cut c n w.0 (omega (arith, w.1)), levels-cut-each cs n m w.2 h) (sym (truncate_levels-append (rows_needed c n) (rows_needed_each cs n) (levels c) (levels_each cs) (levels-count c n)))

-- each level of a complete builder has exactly the length that the rows need
mutual
  pub levels-needed : (t : BuilderTree) → IsComplete t → map length (levels t) ≡ rows_needed t (builder_len t)
  levels-needed (flat k xs) w = refl
  levels-needed (list large k rows c) w = rw (own-length (list large k rows c), take-length rows, ← w.2, levels-needed c w.0) refl
  levels-needed (fixed_size_list k bits c) w = rw (own-length (fixed_size_list k bits c), ← w.2, levels-needed c w.0) refl
  levels-needed (dictionary i k keys c) w = rw (own-length (dictionary i k keys c), take-length keys, ← w.2, levels-needed c w.0) refl
  levels-needed (struct k bits cs) w = rw (own-length (struct k bits cs), levels-needed-each cs (length bits) w.0) refl

  pub levels-needed-each : (cs : BuilderTrees) (n : ℕ) → AreComplete cs n → map length (levels_each cs) ≡ rows_needed_each cs n
  levels-needed-each no_builders n w = refl
  levels-needed-each (more_builders c cs) n w =
      rw (map-append length (levels c) (levels_each cs), levels-needed-each cs n w.2) (ap (λ ns. ns ++ rows_needed_each cs n) (levels-needed c w.0 ∙ ap (λ m. rows_needed c m) w.1))

-- truncation to no rows is the emptied builder
mutual
  pub cut-none : (t : BuilderTree) → truncate_builder t 0 ≡ emptied t
  cut-none (flat k xs) = refl
  cut-none (list large k rows c) = rw (cut-none c) refl
  cut-none (fixed_size_list k bits c) = rw (zero-mul (size_of k), cut-none c) refl
  cut-none (dictionary i k keys c) = rw (cut-none c) refl
  cut-none (struct k bits cs) = rw (cut-none-each cs) refl

  pub cut-none-each : (cs : BuilderTrees) → truncate_builders cs 0 ≡ emptied_each cs
  cut-none-each no_builders = refl
  cut-none-each (more_builders c cs) = rw (cut-none c, cut-none-each cs) refl

-- an emptied builder has the same type, is complete, and has no slot at any level
pub type-emptied : (t : BuilderTree) → builder_type (emptied t) ≡ builder_type t
type-emptied t = ap builder_type (sym (cut-none t)) ∙ type-cut t 0

pub own-emptied : (t : BuilderTree) → own_slots (emptied t) ≡ []
own-emptied (flat k xs) = refl
own-emptied (list large k rows c) = refl
own-emptied (fixed_size_list k bits c) = refl
own-emptied (dictionary i k keys c) = refl
own-emptied (struct k bits cs) = refl

pub emptied-cut : (t : BuilderTree) → emptied t ≡ truncate_builder t 0
emptied-cut t = sym (cut-none t)

pub complete-emptied : (t : BuilderTree) → IsComplete t → IsComplete (emptied t)
complete-emptied t w = rw (emptied-cut t) (complete-cut t 0 w (omega arith))

mutual
  pub levels-emptied : (t : BuilderTree) → map length (levels (emptied t)) ≡ rows_needed (emptied t) 0
  levels-emptied (flat k xs) = refl
  levels-emptied (list large k rows c) = ap (◌∷◌ 0) (levels-emptied c)
  levels-emptied (fixed_size_list k bits c) = ap (◌∷◌ 0) (levels-emptied c ∙ ap (rows_needed (emptied c)) (sym (zero-mul (size_of k))))
  levels-emptied (dictionary i k keys c) = ap (◌∷◌ 0) (levels-emptied c)
  levels-emptied (struct k bits cs) = ap (◌∷◌ 0) (levels-emptied-each cs)

  levels-emptied-each : (cs : BuilderTrees) → map length (levels_each (emptied_each cs)) ≡ rows_needed_each (emptied_each cs) 0
  levels-emptied-each no_builders = refl
  levels-emptied-each (more_builders c cs) = rw (map-append length (levels (emptied c)) (levels_each (emptied_each cs)), levels-emptied c, levels-emptied-each cs) refl

mutual
  pub ValuesDiffer-emptied : (t : BuilderTree) → ValuesDiffer (emptied t)
  ValuesDiffer-emptied (flat k xs) = tt
  ValuesDiffer-emptied (list large k rows c) = ValuesDiffer-emptied c
  ValuesDiffer-emptied (fixed_size_list k bits c) = ValuesDiffer-emptied c
  ValuesDiffer-emptied (dictionary i k keys c) = (rw (own-emptied c) (λ m n l. absurd (omega (arith, l))), ValuesDiffer-emptied c)
  ValuesDiffer-emptied (struct k bits cs) = ValuesDiffer-emptied-each cs

  ValuesDiffer-emptied-each : (cs : BuilderTrees) → ValuesDifferEach (emptied_each cs)
  ValuesDiffer-emptied-each no_builders = tt
  ValuesDiffer-emptied-each (more_builders c cs) = (ValuesDiffer-emptied c, ValuesDiffer-emptied-each cs)

-- the first slots of a list of distinct slots are distinct
pub AreDifferent-take : (xs : List Slot) (n : ℕ) → AreDifferent xs → AreDifferent (take n xs)
AreDifferent-take xs n d i j li lj e =
    let a : i < n = omega (arith, li, length-take n xs) in
    let b : j < n = omega (arith, lj, length-take n xs) in
    let a' : i < length xs = omega (arith, li, length-take n xs) in
    let b' : j < length xs = omega (arith, lj, length-take n xs) in
    d i j a' b' (sym (get_or-take n xs i slots.null a) ∙ (e ∙ get_or-take n xs j slots.null b))

-- truncation keeps the values of dictionaries distinct
mutual
  pub ValuesDiffer-cut : (t : BuilderTree) (n : ℕ) → IsComplete t → n ≤ builder_len t → ValuesDiffer t → ValuesDiffer (truncate_builder t n)
  ValuesDiffer-cut (flat k xs) n w h d = tt
  ValuesDiffer-cut (list large k rows c) n w h d = ValuesDiffer-cut c _ w.0 (list-within rows c n w.2 w.3) d
  ValuesDiffer-cut (fixed_size_list k bits c) n w h d = ValuesDiffer-cut c _ w.0 (size-within bits c (size_of k) n w.2 h) d
  ValuesDiffer-cut (dictionary i k keys c) n w h d =
      let e = values_needed (take n keys) in
      let inside : e ≤ builder_len c = keys-within keys c n w.2 in
      (rw (own-cut c e w.0 inside) (AreDifferent-take (own_slots c) e d.0), ValuesDiffer-cut c e w.0 inside d.1)
  ValuesDiffer-cut (struct k bits cs) n w h d = ValuesDiffer-cut-each cs n (length bits) w.0 h d

  pub ValuesDiffer-cut-each : (cs : BuilderTrees) (n m : ℕ) → AreComplete cs m → n ≤ m → ValuesDifferEach cs → ValuesDifferEach (truncate_builders cs n)
  ValuesDiffer-cut-each no_builders n m w h d = tt
  ValuesDiffer-cut-each (more_builders c cs) n m w h d = (ValuesDiffer-cut c n w.0 (omega (arith, w.1)) d.0, ValuesDiffer-cut-each cs n m w.2 h d.1)
