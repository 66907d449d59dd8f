-- Laws of selected items and of the indices that a mask selects.
use Rattle.std.specs.Prelude.{◌↔◌, true, List, [], ◌∷◌, ◌++◌, length, get_or, replicate}
use Rattle.std.specs.List.{All, AllPairs, Contains, range_with_len}
use Rattle.std.proofs.Common.{◌≡◌, ℕ, zero, suc, ◌+◌, ◌<◌, ◌≤◌, refl, ap, ◌∙◌, subst, arith}
use Rattle.std.proofs.Math.Seq.{drop-cons}
use Rattle.std.proofs.lemmas.List.{length-map, map-append}
use Rattle.std.proofs.lemmas.List.Elements.{All-nil, All-cons}
use Rattle.std.proofs.lemmas.List.Kept.{AllPairs-cons}
use Rattle.nest_memory.specs.Sublist.{sublist}
use Rattle.nest_model.specs.Slot as slots
use Rattle.nest_model.specs.Slot.{Slot}
use Rattle.nest_model.specs.Selected.{selected, indices_from, mask_indices, IsTrueAt}

pub length-selected : (ss : List Slot) (is : List ℕ) → length (selected ss is) ≡ length is
length-selected ss is = length-map is (λ i. get_or ss i slots.null)

pub selected-append : (ss : List Slot) (is js : List ℕ) → selected ss (is ++ js) ≡ selected ss is ++ selected ss js
selected-append ss is js = map-append (λ i. get_or ss i slots.null) is js

-- Consecutive indices select a sublist.
pub selected-range : (ss : List Slot) (o n : ℕ) → o + n ≤ length ss → selected ss (range_with_len o n) ≡ sublist ss o n
selected-range ss o zero h = refl
selected-range ss o (suc n) h =
    let d = drop-cons ss o slots.null (omega arith) in
    let e = selected-range ss (o + 1) n (omega arith) in
    let k : suc o ≡ o + 1 = omega arith in
    let f = ap (λ q. sublist ss q n) k in
    cc

-- All indices in order select the list itself.
pub selected-all : (ss : List Slot) → selected ss (range_with_len 0 (length ss)) ≡ ss
selected-all ss = selected-range ss 0 (length ss) (omega arith) ∙ whole ss
  where
    whole : (ss : List Slot) → sublist ss 0 (length ss) ≡ ss
    whole [] = refl
    whole (s ∷ ss) = ap (◌∷◌ s) (whole ss)

abbrev StandsAt : ℕ → List Slot → ℕ → Type 0
StandsAt k ss p = (j : ℕ) × (p ≡ k + j) × IsTrueAt ss j

stands-later : (k : ℕ) (s : Slot) (ss : List Slot) (ps : List ℕ) → All (StandsAt (suc k) ss) ps → All (StandsAt k (s ∷ ss)) ps
stands-later k s ss ps h i d l = let (j, e, t) = h i d l in (suc j, omega arith, (omega arith, t.1))

all-stand : (k : ℕ) (ss : List Slot) → All (StandsAt k ss) (indices_from k ss)
all-stand k [] = All-nil (StandsAt k [])
all-stand k (slots.boolean true ∷ ss) = All-cons (StandsAt k (slots.boolean true ∷ ss)) k (indices_from (suc k) ss) (0, omega arith, (omega arith, refl)) (stands-later k (slots.boolean true) ss (indices_from (suc k) ss) (all-stand (suc k) ss))
all-stand k (s ∷ ss) = stands-later k s ss (indices_from (suc k) ss) (all-stand (suc k) ss)

-- At each index that a mask selects, the slot is true.
pub mask_indices-true : (ss : List Slot) → All (IsTrueAt ss) (mask_indices ss)
mask_indices-true ss i d l =
    let (j, e, t) = all-stand 0 ss i d l in
    let q : j ≡ get_or (mask_indices ss) i d = omega arith in
    subst (IsTrueAt ss) q t

contains-later : (p x : ℕ) (ps : List ℕ) → Contains ps p → Contains (x ∷ ps) p
contains-later p x ps (i, l, e) = (suc i, omega arith, e)

contains-at : (p q : ℕ) (ps : List ℕ) → p ≡ q → Contains ps p → Contains ps q
contains-at p q ps e h = subst (Contains ps) e h

stands-selected : (k : ℕ) (ss : List Slot) (j : ℕ) → IsTrueAt ss j → Contains (indices_from k ss) (k + j)
stands-selected k [] j h = absurd (let l = h.0 in omega arith)
stands-selected k (slots.boolean true ∷ ss) zero h = (0, omega arith, omega arith)
stands-selected k (s ∷ ss) zero h = absurd (let e = h.1 in cc)
stands-selected k (slots.boolean true ∷ ss) (suc j) h =
    let l = h.0 in
    contains-later (k + suc j) k (indices_from (suc k) ss) (contains-at (suc k + j) (k + suc j) (indices_from (suc k) ss) (omega arith) (stands-selected (suc k) ss j (omega arith, h.1)))
stands-selected k (s ∷ ss) (suc j) h =
    let l = h.0 in
    contains-at (suc k + j) (k + suc j) (indices_from (suc k) ss) (omega arith) (stands-selected (suc k) ss j (omega arith, h.1))

-- Each index whose slot is true is selected.
pub true-mask_indices : (ss : List Slot) (p : ℕ) → IsTrueAt ss p → Contains (mask_indices ss) p
true-mask_indices ss p h = contains-at (0 + p) p (mask_indices ss) (omega arith) (stands-selected 0 ss p h)

-- A mask selects exactly the indices whose slot is true.
pub mask_indices-exact : (ss : List Slot) (p : ℕ) → Contains (mask_indices ss) p ↔ IsTrueAt ss p
mask_indices-exact ss p = (λ (i, l, e). subst (IsTrueAt ss) e (mask_indices-true ss i p l), true-mask_indices ss p)

all-after : (k : ℕ) (ss : List Slot) → All (λ p. k < p) (indices_from (suc k) ss)
all-after k ss i d l = let (j, e, t) = all-stand (suc k) ss i d l in omega arith

rising-from : (k : ℕ) (ss : List Slot) → AllPairs (λ p q. p < q) (indices_from k ss)
rising-from k [] = λ i j d l m. absurd (omega arith)
rising-from k (slots.boolean true ∷ ss) = AllPairs-cons (λ p q. p < q) k (indices_from (suc k) ss) (all-after k ss) (rising-from (suc k) ss)
rising-from k (s ∷ ss) = rising-from (suc k) ss

-- The indices are in ascending order.
pub mask_indices-rise : (ss : List Slot) → AllPairs (λ p q. p < q) (mask_indices ss)
mask_indices-rise ss = rising-from 0 ss

-- A mask of true slots only selects every index.
true-places : (k n : ℕ) → indices_from k (replicate n (slots.boolean true)) ≡ range_with_len k n
true-places k zero = refl
true-places k (suc n) = let e : suc k ≡ k + 1 = omega arith in ap (◌∷◌ k) (true-places (suc k) n ∙ ap (λ q. range_with_len q n) e)

pub mask_indices-all : (n : ℕ) → mask_indices (replicate n (slots.boolean true)) ≡ range_with_len 0 n
mask_indices-all n = true-places 0 n
