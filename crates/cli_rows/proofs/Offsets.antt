-- The array and the offset of a row index.
use Rattle.std.proofs.Common.{◌≡◌, ◌⊎◌, ℕ, zero, suc, ◌+◌, ◌^◌, ◌<◌, ◌≤◌, List, [], ◌∷◌, ◌++◌, length, take, drop, get_or, map, Some, None, nat_lt, ◌&&◌, true, false, refl, sym, ap, ◌∙◌, arith, inl, inr, length-append, length-drop}
use Rattle.std.specs.List.{flat_map, list_all, sum_by}
use Rattle.std.proofs.Math.Nat.{eq-or-lt_of_le, lt_of_not-le}
use Rattle.std.proofs.Math.Seq.{drop-append-add}
use Rattle.std.proofs.lemmas.Bool.{cond-true, cond-false, lt-ltb}
use Rattle.std.proofs.lemmas.List.{get_or_append_left, get_or_push, get_or-map, length-take, take_all}
use Rattle.std.proofs.lemmas.List.Folds.{list_all_at, list_all_more}
use Rattle.std.proofs.lemmas.List.Sums.{sum_by-cons, sum_by_more}
use Rattle.nest_memory.specs.Sublist.{sublist}
use Rattle.nest_array.specs.Seen.{layout_of}
use Rattle.nest_array.specs.declared.any.AnyArray.{AnyArray}
use Rattle.cli_args.specs.Requests.{indices}
use Rattle.cli_rows.specs.Selection.{selected_rows}
use Rattle.cli_rows.specs.RowOffsets.{AreRowOffsets, IsLocated, length_at, row_count, rows_before}
use Rattle.cli_rows.specs.Rows.{RowSlot, rows_at_indices, rows_of}
use Rattle.cli_rows.specs.RowLaws.{cut-front, rows-length}

pub record StartsSoFar (starts : List ℕ) (arrays : List AnyArray) (i rows : ℕ) : Type 0 where
  pub as_many : length starts ≡ i
  pub at_most : i ≤ length arrays
  pub each : (k : ℕ) → k < i → get_or starts k 0 ≡ rows_before arrays k
  pub rows_are : rows ≡ rows_before arrays i

before-more : (arrays : List AnyArray) (i : ℕ) (x : AnyArray) → i < length arrays → x ≡ get_or arrays i x → rows_before arrays (i + 1) ≡ rows_before arrays i + row_count x
before-more arrays i x h e = sum_by_more row_count arrays i x h ∙ ap (λ z. rows_before arrays i + row_count z) (sym e)

each-more : (old : List ℕ) (rows : ℕ) (arrays : List AnyArray) (i : ℕ) → StartsSoFar old arrays i rows → (k : ℕ) → k < i + 1 → get_or (old ++ rows ∷ []) k 0 ≡ rows_before arrays k
each-more old rows arrays i s k h = by_place (eq-or-lt_of_le (omega (arith, h)))
  where
    by_place : (k ≡ i) ⊎ (k < i) → get_or (old ++ rows ∷ []) k 0 ≡ rows_before arrays k
    by_place (inl e) = get_or_push old rows 0 k (s.as_many ∙ sym e) ∙ s.rows_are ∙ ap (rows_before arrays) (sym e)
    by_place (inr lt) = let m = s.as_many in get_or_append_left old (rows ∷ []) 0 k (omega (arith, m, lt)) ∙ s.each k lt

pub start-more : (old new : List ℕ) (rows more : ℕ) (arrays : List AnyArray) (i : ℕ) (x : AnyArray) → i < length arrays → x ≡ get_or arrays i x → new ≡ old ++ rows ∷ [] → more ≡ rows + row_count x
    → StartsSoFar old arrays i rows → StartsSoFar new arrays (i + 1) more
start-more old new rows more arrays i x h e pushed m s =
    let l = length-append old (rows ∷ []) in
    let k = s.as_many in
    record {
      as_many = ap length pushed ∙ l ∙ ap (λ n. n + 1) k;
      at_most = omega (arith, h);
      each = λ j lt. ap (λ z. get_or z j 0) pushed ∙ each-more old rows arrays i s j lt;
      rows_are = m ∙ ap (λ n. n + row_count x) s.rows_are ∙ sym (before-more arrays i x h e);
    }

pub starts-past : (old new : List ℕ) (rows : ℕ) (arrays : List AnyArray) (i : ℕ) (x : AnyArray) → i < length arrays → x ≡ get_or arrays i x → new ≡ old ++ rows ∷ [] → 2 ^ 64 ≤ rows + row_count x
    → StartsSoFar old arrays i rows → AreRowOffsets new arrays
starts-past old new rows arrays i x h e pushed past s =
    let m : length new ≡ i + 1 = ap length pushed ∙ length-append old (rows ∷ []) ∙ ap (λ n. n + 1) s.as_many in
    let b = before-more arrays i x h e in
    let r = s.rows_are in
    record {
      at_most = omega (arith, m, h);
      each = λ j lt. ap (λ z. get_or z j 0) pushed ∙ each-more old rows arrays i s j (omega (arith, lt, m));
      past = λ _. rw m (omega (arith, b, r, past));
    }

pub starts-whole : (starts : List ℕ) (rows : ℕ) (arrays : List AnyArray) (i : ℕ) → length arrays ≤ i → StartsSoFar starts arrays i rows → AreRowOffsets starts arrays
starts-whole starts rows arrays i h s =
    let m = s.as_many in
    let a = s.at_most in
    record {
      at_most = omega (arith, m, a);
      each = λ j lt. s.each j (omega (arith, lt, m));
      past = λ lt. absurd (omega (arith, lt, m, h));
    }

pub starts-none : (starts : List ℕ) (arrays : List AnyArray) → starts ≡ [] → StartsSoFar starts arrays 0 0
starts-none starts arrays none = record {
  as_many = ap length none;
  at_most = omega arith;
  each = λ k h. absurd (omega (arith, h));
  rows_are = refl;
}

pub no-start : (starts : List ℕ) (arrays : List AnyArray) (place : ℕ) → AreRowOffsets starts arrays → length starts ≡ 0 → sum_by row_count arrays ≤ place
no-start starts [] place s e = omega arith
no-start starts (x ∷ xs) place s e =
    let p : 2 ^ 64 ≤ rows_before (x ∷ xs) (length starts) = s.past (omega (arith, e)) in
    let z : rows_before (x ∷ xs) (length starts) ≡ 0 = ap (rows_before (x ∷ xs)) e in
    absurd (omega (arith, p, z))

pub start-first : (starts : List ℕ) (arrays : List AnyArray) → AreRowOffsets starts arrays → 0 < length starts → get_or starts 0 0 ≡ 0
start-first starts arrays s h = s.each 0 h

pub place-found : (starts : List ℕ) (arrays : List AnyArray) (place k i : ℕ) (x : AnyArray) → AreRowOffsets starts arrays → k < length starts → x ≡ get_or arrays k x → get_or starts k 0 ≤ place
    → i + get_or starts k 0 ≡ place → i < row_count x → IsLocated arrays place (k, i)
place-found starts arrays place k i x s h e below is within =
    let m = s.at_most in
    let b = s.each k h in
    let l : length_at arrays k ≡ row_count x = get_or-map row_count arrays k x 0 (omega (arith, m, h)) ∙ ap row_count (sym e) in
    record {
      array = omega (arith, m, h);
      within = omega (arith, l, within);
      place_is = omega (arith, is, b);
    }

pub place-missing : (starts : List ℕ) (arrays : List AnyArray) (place k i : ℕ) (x : AnyArray) → AreRowOffsets starts arrays → place < 2 ^ 64 → k < length starts → x ≡ get_or arrays k x
    → (k + 1 < length starts → place < get_or starts (k + 1) 0) → i + get_or starts k 0 ≡ place → row_count x ≤ i → sum_by row_count arrays ≤ place
place-missing starts arrays place k i x s small h e last is past =
    let m = s.at_most in
    let b = s.each k h in
    let next = before-more arrays k x (omega (arith, m, h)) e in
    let passed : rows_before arrays (k + 1) ≤ place = omega (arith, next, b, is, past) in
    let end : length arrays < k + 2 = lt_of_not-le (λ more. by_start next passed more (eq-or-lt_of_le (omega (arith, h)))) in
    let all : rows_before arrays (k + 1) ≡ sum_by row_count arrays = ap (sum_by row_count) (take_all (k + 1) arrays (omega (arith, end))) in
    omega (arith, all, passed)
  where
    by_start : rows_before arrays (k + 1) ≡ rows_before arrays k + row_count x → rows_before arrays (k + 1) ≤ place → k + 2 ≤ length arrays → (k + 1 ≡ length starts) ⊎ (k + 1 < length starts) → ⊥
    by_start next passed more (inl same) =
        let p = s.past (omega (arith, same, more)) in
        let q : rows_before arrays (k + 1) ≡ rows_before arrays (length starts) = ap (rows_before arrays) same in
        omega (arith, p, q, passed, small)
    by_start next passed more (inr lt) =
        let l = last lt in
        let q = s.each (k + 1) lt in
        omega (arith, l, q, passed)

pub located-len : (arrays : List AnyArray) (k : ℕ) (x : AnyArray) → k < length arrays → x ≡ get_or arrays k x → length_at arrays k ≡ row_count x
located-len arrays k x h e = get_or-map row_count arrays k x 0 h ∙ ap row_count (sym e)

pub total-rows : (arrays : List AnyArray) → length (flat_map rows_of (map layout_of arrays)) ≡ sum_by row_count arrays
total-rows [] = refl
total-rows (x ∷ xs) = length-append (rows_of (layout_of x)) _ ∙ ap (λ n. n + length (flat_map rows_of (map layout_of xs))) (rows-length (layout_of x)) ∙ ap (λ n. row_count x + n) (total-rows xs) ∙ sym (sum_by-cons row_count x xs)

pub located-row : (arrays : List AnyArray) (k i place : ℕ) (x : AnyArray) → k < length arrays → x ≡ get_or arrays k x → i < row_count x → place ≡ rows_before arrays k + i
    → sublist (rows_of (layout_of x)) i 1 ≡ sublist (flat_map rows_of (map layout_of arrays)) place 1
located-row [] k i place x h e within is = absurd (omega (arith, h))
located-row (y ∷ ys) zero i place x h e within is =
    let l = rows-length (layout_of x) in
    let same : i ≡ place = omega (arith, is) in
    cut-front (rows_of (layout_of x)) (flat_map rows_of (map layout_of ys)) i 1 (omega (arith, l, within))
    ∙ ap (λ p. sublist (rows_of (layout_of x) ++ flat_map rows_of (map layout_of ys)) p 1) same
    ∙ ap (λ z. sublist (rows_of (layout_of z) ++ flat_map rows_of (map layout_of ys)) place 1) e
located-row (y ∷ ys) (suc k) i place x h e within is =
    let l = rows-length (layout_of y) in
    let c = sum_by-cons row_count y (take k ys) in
    let split : place ≡ length (rows_of (layout_of y)) + (rows_before ys k + i) = omega (arith, l, c, is) in
    located-row ys k i (rows_before ys k + i) x (omega (arith, h)) e within refl
    ∙ ap (take 1) (sym (ap (λ p. drop p (rows_of (layout_of y) ++ flat_map rows_of (map layout_of ys))) split ∙ drop-append-add (rows_of (layout_of y)) (flat_map rows_of (map layout_of ys)) (rows_before ys k + i)))

pub same-default : (xs : List ℕ) (i d e : ℕ) → i < length xs → get_or xs i d ≡ get_or xs i e
same-default [] i d e h = absurd (omega (arith, h))
same-default (x ∷ xs) zero d e h = refl
same-default (x ∷ xs) (suc i) d e h = same-default xs i d e (omega (arith, h))

pub place-more : (rows : List RowSlot) (places : List ℕ) (j place : ℕ) → j < length places → place ≡ get_or places j place → length (sublist rows place 1) ≡ 1
    → list_all (λ p. nat_lt p (length rows)) (take j places) ≡ true → list_all (λ p. nat_lt p (length rows)) (take (j + 1) places) ≡ true
place-more rows places j place h e one so_far =
    let t = length-take 1 (drop place rows) in
    let d = length-drop place rows in
    list_all_more (λ p. nat_lt p (length rows)) places j place h
    ∙ ap (λ b. b && nat_lt (get_or places j place) (length rows)) so_far
    ∙ ap (λ p. nat_lt p (length rows)) (sym e)
    ∙ lt-ltb place (length rows) (omega (arith, t, d, one))

pub none-at : (rows : List RowSlot) (places : List ℕ) (j place : ℕ) → j < length places → place ≡ get_or places j place → length rows ≤ place → None ≡ selected_rows (indices places) rows
none-at rows places j place h e past =
    sym (cond-false _ _ _ (list_all_at (λ p. nat_lt p (length rows)) places j place h (ap (λ p. nat_lt p (length rows)) (sym e) ∙ not-lt place (length rows) past)))
  where
    not-lt : (m n : ℕ) → n ≤ m → nat_lt m n ≡ false
    not-lt m n k = grind arith

pub all-at : (rows selected : List RowSlot) (places : List ℕ) (j : ℕ) → length places ≤ j → selected ≡ rows_at_indices rows (take j places) → list_all (λ p. nat_lt p (length rows)) (take j places) ≡ true
    → Some selected ≡ selected_rows (indices places) rows
all-at rows selected places j h is all =
    ap (λ rs. Some rs) (is ∙ ap (rows_at_indices rows) (take_all j places h))
    ∙ sym (cond-true _ _ _ (ap (list_all (λ p. nat_lt p (length rows))) (sym (take_all j places h)) ∙ all))
