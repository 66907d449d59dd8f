-- Rows where a condition is true.
use Rattle.std.proofs.Common.{◌≡◌, ℕ, zero, suc, ◌+◌, ◌<◌, ◌≤◌, Bool, true, false, List, [], ◌∷◌, ◌++◌, length, take, get_or, map, append-nil, append_assoc, refl, sym, ap, ◌∙◌, arith}
use Rattle.std.specs.List.{filter, flat_map}
use Rattle.std.proofs.Math.Bool.{cond}
use Rattle.std.proofs.lemmas.List.{flat_map_more, get_or-map, take_all}
use Rattle.std.proofs.lemmas.List.Elements.{filter-append, filter_more}
use Rattle.nest_model.specs.Layout.{Layout, layout_type}
use Rattle.nest_model.specs.Meaning.{len, slot, slots_of}
use Rattle.nest_model.specs.Reads.{items-cut, slot-place, slots-length}
use Rattle.nest_model.specs.Selected.{indices_from}
use Rattle.nest_model.specs.Slot as slots
use Rattle.nest_model.specs.Slot.{Slot}
use Rattle.nest_array.specs.Seen.{layout_of}
use Rattle.nest_array.specs.WindowParts.{WindowParts, window_parts}
use Rattle.nest_array.specs.declared.any.AnyArray.{AnyArray}
use Rattle.cli_args.specs.Conditions.{ConditionTree}
use Rattle.cli_rows.specs.Conditions.{is_true_in, true_indices}
use Rattle.cli_rows.specs.Rows.{RowSlot, rows_in, rows_of}
use Rattle.cli_rows.specs.RowLaws.{rows-length}

row-at : (a : Layout) (i : ℕ) (d : RowSlot) → i < len a → get_or (rows_of a) i d ≡ (layout_type a, slot a i)
row-at a i d h =
    let l = slots-length a in
    get_or-map (λ s. (layout_type a, s)) (slots_of a) i slots.null d (omega (arith, l, h)) ∙ ap (λ s. (layout_type a, s)) (slot-place a i slots.null h)

-- ---- as windows

one-more : (c : ConditionTree) (a : Layout) (i : ℕ) (b : Bool) → i < len a → is_true_in c (layout_type a, slot a i) ≡ b
    → filter (is_true_in c) (take (i + 1) (rows_of a)) ≡ filter (is_true_in c) (take i (rows_of a)) ++ cond b ((layout_type a, slot a i) ∷ []) []
one-more c a i b h e =
    let row : RowSlot = (layout_type a, slot a i) in
    let l = rows-length a in
    filter_more (is_true_in c) (rows_of a) i row (omega (arith, l, h))
    ∙ ap (λ r. filter (is_true_in c) (take i (rows_of a)) ++ cond (is_true_in c r) (r ∷ []) []) (row-at a i row h)
    ∙ ap (λ q. filter (is_true_in c) (take i (rows_of a)) ++ cond q (row ∷ []) []) e

window-row : (a : Layout) (i : ℕ) → i < len a → rows_in (window_parts a i 1) ≡ (layout_type a, slot a i) ∷ []
window-row a i h = ap (map (λ s. (layout_type a, s))) (sym (items-cut a i 1 (omega (arith, h))))

pub true-more : (c : ConditionTree) (a : Layout) (i : ℕ) (old new : List WindowParts) (w : WindowParts) (front : List RowSlot) → i < len a → w ≡ window_parts a i 1 → new ≡ old ++ w ∷ []
    → is_true_in c (layout_type a, slot a i) ≡ true → flat_map rows_in old ≡ front ++ filter (is_true_in c) (take i (rows_of a))
    → flat_map rows_in new ≡ front ++ filter (is_true_in c) (take (i + 1) (rows_of a))
true-more c a i old new w front h is pushed e so_far =
    ap (flat_map rows_in) pushed
    ∙ sym (flat_map_more rows_in [] old w)
    ∙ ap (λ l. l ++ rows_in w) so_far
    ∙ ap (λ l. (front ++ filter (is_true_in c) (take i (rows_of a))) ++ l) (ap rows_in is ∙ window-row a i h)
    ∙ append_assoc front (filter (is_true_in c) (take i (rows_of a))) _
    ∙ ap (λ l. front ++ l) (sym (one-more c a i true h e))

pub false-more : (c : ConditionTree) (a : Layout) (i : ℕ) (selected front : List RowSlot) → i < len a → is_true_in c (layout_type a, slot a i) ≡ false
    → selected ≡ front ++ filter (is_true_in c) (take i (rows_of a)) → selected ≡ front ++ filter (is_true_in c) (take (i + 1) (rows_of a))
false-more c a i selected front h e so_far =
    so_far ∙ ap (λ l. front ++ l) (sym (one-more c a i false h e ∙ append-nil _))

pub all-true : (c : ConditionTree) (a : Layout) (i : ℕ) (selected front : List RowSlot) → len a ≤ i
    → selected ≡ front ++ filter (is_true_in c) (take i (rows_of a)) → selected ≡ front ++ filter (is_true_in c) (rows_of a)
all-true c a i selected front h so_far =
    let l = rows-length a in
    so_far ∙ ap (λ rs. front ++ filter (is_true_in c) rs) (take_all i (rows_of a) (omega (arith, l, h)))

abbrev pub true_in_array : ConditionTree → AnyArray → List RowSlot
true_in_array c a = filter (is_true_in c) (rows_of (layout_of a))

each-true : (c : ConditionTree) (xs : List AnyArray) → flat_map (true_in_array c) xs ≡ filter (is_true_in c) (flat_map rows_of (map layout_of xs))
each-true c [] = refl
each-true c (x ∷ xs) = ap (λ l. true_in_array c x ++ l) (each-true c xs) ∙ sym (filter-append (is_true_in c) (rows_of (layout_of x)) (flat_map rows_of (map layout_of xs)))

pub arrays-true : (c : ConditionTree) (xs : List AnyArray) (i : ℕ) → length xs ≤ i → flat_map (true_in_array c) (take i xs) ≡ filter (is_true_in c) (flat_map rows_of (map layout_of xs))
arrays-true c xs i h = ap (flat_map (true_in_array c)) (take_all i xs h) ∙ each-true c xs

-- ---- the indices of those rows

abbrev mask : ConditionTree → List RowSlot → List Slot
mask c rows = map (λ r. slots.boolean (is_true_in c r)) rows

from-more : (c : ConditionTree) (k i : ℕ) (rows : List RowSlot) (d : RowSlot) → i < length rows
    → indices_from k (mask c (take (suc i) rows)) ≡ indices_from k (mask c (take i rows)) ++ cond (is_true_in c (get_or rows i d)) ((k + i) ∷ []) []
from-more c k i [] d h = absurd (omega arith)
from-more c k zero (r ∷ rows) d h = by_truth (is_true_in c r)
  where
    by_truth : (b : Bool) → indices_from k (slots.boolean b ∷ []) ≡ cond b ((k + 0) ∷ []) []
    by_truth true = let e : k ≡ k + 0 = omega arith in ap (λ z. z ∷ []) e
    by_truth false = refl
from-more c k (suc i) (r ∷ rows) d h =
    let e : suc k + i ≡ k + suc i = omega arith in
    by_truth (is_true_in c r) (from-more c (suc k) i rows d (omega arith) ∙ ap (λ z. indices_from (suc k) (mask c (take i rows)) ++ cond (is_true_in c (get_or rows i d)) (z ∷ []) []) e)
  where
    by_truth : (b : Bool) → indices_from (suc k) (mask c (take (suc i) rows)) ≡ indices_from (suc k) (mask c (take i rows)) ++ cond (is_true_in c (get_or rows i d)) ((k + suc i) ∷ []) []
        → indices_from k (slots.boolean b ∷ mask c (take (suc i) rows)) ≡ indices_from k (slots.boolean b ∷ mask c (take i rows)) ++ cond (is_true_in c (get_or rows i d)) ((k + suc i) ∷ []) []
    by_truth true rest = ap (λ l. k ∷ l) rest
    by_truth false rest = rest

index-more : (c : ConditionTree) (a : Layout) (i : ℕ) (b : Bool) → i < len a → is_true_in c (layout_type a, slot a i) ≡ b → true_indices c (take (i + 1) (rows_of a)) ≡ true_indices c (take i (rows_of a)) ++ cond b (i ∷ []) []
index-more c a i b h e =
    let row : RowSlot = (layout_type a, slot a i) in
    let l = rows-length a in
    let p : i + 1 ≡ suc i = omega arith in
    let q : 0 + i ≡ i = omega arith in
    ap (λ n. true_indices c (take n (rows_of a))) p
    ∙ from-more c 0 i (rows_of a) row (omega (arith, l, h))
    ∙ ap (λ r. true_indices c (take i (rows_of a)) ++ cond (is_true_in c r) ((0 + i) ∷ []) []) (row-at a i row h)
    ∙ ap (λ t. true_indices c (take i (rows_of a)) ++ cond t ((0 + i) ∷ []) []) e
    ∙ ap (λ n. true_indices c (take i (rows_of a)) ++ cond b (n ∷ []) []) q

pub true-index : (c : ConditionTree) (a : Layout) (i : ℕ) (old new : List ℕ) → i < len a → new ≡ old ++ i ∷ [] → is_true_in c (layout_type a, slot a i) ≡ true → old ≡ true_indices c (take i (rows_of a)) → new ≡ true_indices c (take (i + 1) (rows_of a))
true-index c a i old new h pushed e so_far = pushed ∙ ap (λ l. l ++ i ∷ []) so_far ∙ sym (index-more c a i true h e)

pub false-index : (c : ConditionTree) (a : Layout) (i : ℕ) (old : List ℕ) → i < len a → is_true_in c (layout_type a, slot a i) ≡ false → old ≡ true_indices c (take i (rows_of a)) → old ≡ true_indices c (take (i + 1) (rows_of a))
false-index c a i old h e so_far = so_far ∙ sym (index-more c a i false h e ∙ append-nil _)

pub all-indices : (c : ConditionTree) (a : Layout) (i : ℕ) (old : List ℕ) → len a ≤ i → old ≡ true_indices c (take i (rows_of a)) → old ≡ true_indices c (rows_of a)
all-indices c a i old h so_far = let l = rows-length a in so_far ∙ ap (true_indices c) (take_all i (rows_of a) (omega (arith, l, h)))
