-- Consecutive lists, and the items at an index in one of them.
use Rattle.std.specs.Prelude.{List, [], ◌∷◌, ◌++◌, length, get_or}
use Rattle.std.specs.List.{All, flat_map, sum_by}
use Rattle.std.proofs.Common.{◌≡◌, ℕ, sum, zero, suc, ◌+◌, ◌-◌, ◌<◌, ◌≤◌, take, drop, refl, ap, sym, ◌∙◌, arith, length-append}
use Rattle.std.proofs.lemmas.List.{get_or_append_left, get_or-append-add, take-append-le, drop-drop, drop-append-le, drop_at, length-drop}
use Rattle.std.proofs.lemmas.List.Sums.{sum_by-append, sum_by-cons, sum_by_more_le}
use Rattle.nest_memory.specs.Sublist.{sublist}
use Rattle.nest_memory.specs.Rising.{ends_from, last_of}
use Rattle.nest_model.specs.Array.{AreOffsets}
use Rattle.nest_model.specs.Part.{begin, extent, count_rows}
use Rattle.nest_model.specs.Runs.{cut-cut, length-cut}
use Rattle.nest_concat.specs.Windows.{extents}

-- a property of each item is one of the first and of the rest
pub first-one : {X : Type 0} (P : X → Type 0) (x : X) (xs : List X) → All P (x ∷ xs) → P x
first-one P x xs h = h 0 x (omega arith)

pub later-ones : {X : Type 0} (P : X → Type 0) (x : X) (xs : List X) → All P (x ∷ xs) → All P xs
later-ones P x xs h = λ k d l. h (suc k) d (omega arith)

-- each list has a given length
abbrev pub AreLong : {X A : Type 0} → (X → List A) → (X → ℕ) → List X → Type 0
AreLong f n xs = All (λ x. length (f x) ≡ n x) xs

pub flat-length : {X A : Type 0} (f : X → List A) (n : X → ℕ) (xs : List X) → AreLong f n xs → length (flat_map f xs) ≡ sum_by n xs
flat-length f n [] h = refl
flat-length f n (x ∷ xs) h =
    omega (arith, length-append (f x) (flat_map f xs), first-one (λ y. length (f y) ≡ n y) x xs h, flat-length f n xs (later-ones (λ y. length (f y) ≡ n y) x xs h), sum_by-cons n x xs)

-- item j of list k
pub flat-at : {X A : Type 0} (f : X → List A) (n : X → ℕ) (xs : List X) (k j : ℕ) (e : X) (d : A) → AreLong f n xs → k < length xs → j < n (get_or xs k e)
    → get_or (flat_map f xs) (sum_by n (take k xs) + j) d ≡ get_or (f (get_or xs k e)) j d
flat-at f n [] k j e d h l m = absurd (omega arith)
flat-at f n (x ∷ xs) zero j e d h l m =
    let z : sum_by n (take 0 (x ∷ xs)) + j ≡ j = omega arith in
    let i : j < length (f x) = omega (arith, first-one (λ y. length (f y) ≡ n y) x xs h) in
    ap (λ i. get_or (f x ++ flat_map f xs) i d) z ∙ get_or_append_left (f x) (flat_map f xs) d j i
flat-at f n (x ∷ xs) (suc k) j e d h l m =
    let z : sum_by n (x ∷ take k xs) + j ≡ length (f x) + (sum_by n (take k xs) + j) = omega (arith, sum_by-cons n x (take k xs), first-one (λ y. length (f y) ≡ n y) x xs h) in
    ap (λ i. get_or (f x ++ flat_map f xs) i d) z ∙ get_or-append-add (f x) (flat_map f xs) (sum_by n (take k xs) + j) d
    ∙ flat-at f n xs k j e d (later-ones (λ y. length (f y) ≡ n y) x xs h) (omega arith) m

-- a sublist within list k
drop-past : {A : Type 0} (xs ys : List A) (m : ℕ) → drop (length xs + m) (xs ++ ys) ≡ drop m ys
drop-past xs ys m = sym (drop-drop m (length xs) (xs ++ ys)) ∙ ap (drop m) (drop_at xs ys (length xs) refl)

pub cut-flat : {X A : Type 0} (f : X → List A) (n : X → ℕ) (xs : List X) (k m l : ℕ) (e : X) → AreLong f n xs → k < length xs → m + l ≤ n (get_or xs k e)
    → sublist (flat_map f xs) (sum_by n (take k xs) + m) l ≡ sublist (f (get_or xs k e)) m l
cut-flat f n [] k m l e h i j = absurd (omega arith)
cut-flat f n (x ∷ xs) zero m l e h i j =
    let z : sum_by n (take 0 (x ∷ xs)) + m ≡ m = omega arith in
    let b = first-one (λ y. length (f y) ≡ n y) x xs h in
    let p : m ≤ length (f x) = omega arith in
    let q : l ≤ length (drop m (f x)) = omega (arith, length-drop m (f x)) in
    ap (λ i. sublist (f x ++ flat_map f xs) i l) z
    ∙ ap (take l) (drop-append-le m (f x) (flat_map f xs) p)
    ∙ take-append-le l (drop m (f x)) (flat_map f xs) q
cut-flat f n (x ∷ xs) (suc k) m l e h i j =
    let z : sum_by n (x ∷ take k xs) + m ≡ length (f x) + (sum_by n (take k xs) + m) = omega (arith, sum_by-cons n x (take k xs), first-one (λ y. length (f y) ≡ n y) x xs h) in
    ap (λ i. sublist (f x ++ flat_map f xs) i l) z
    ∙ ap (take l) (drop-past (f x) (flat_map f xs) (sum_by n (take k xs) + m))
    ∙ cut-flat f n xs k m l e (later-ones (λ y. length (f y) ≡ n y) x xs h) (omega arith) j

-- the sum of the numbers up to index j of list k
sum-past : (xs ys : List ℕ) (m : ℕ) → sum (take (length xs + m) (xs ++ ys)) ≡ sum xs + sum (take m ys)
sum-past [] ys m = let z : length {A = ℕ} [] + m ≡ m = omega arith in omega (arith, ap (λ i. sum (take i ys)) z)
sum-past (x ∷ xs) ys m =
    let z : length (x ∷ xs) + m ≡ suc (length xs + m) = omega arith in
    omega (arith, ap (λ i. sum (take i (x ∷ (xs ++ ys)))) z, sum-past xs ys m, sum_by-cons (λ (z : ℕ). z) x (take (length xs + m) (xs ++ ys)), sum_by-cons (λ (z : ℕ). z) x xs)

pub sum-flat : {X : Type 0} (f : X → List ℕ) (n s : X → ℕ) (xs : List X) (k j : ℕ) (e : X) → AreLong f n xs → All (λ x. sum (f x) ≡ s x) xs → k < length xs → j ≤ n (get_or xs k e)
    → sum (take (sum_by n (take k xs) + j) (flat_map f xs)) ≡ sum_by s (take k xs) + sum (take j (f (get_or xs k e)))
sum-flat f n s [] k j e h g i l = absurd (omega arith)
sum-flat f n s (x ∷ xs) zero j e h g i l =
    let z : sum_by n (take 0 (x ∷ xs)) + j ≡ j = omega arith in
    let b = first-one (λ y. length (f y) ≡ n y) x xs h in
    let t = ap (λ i. sum (take i (f x ++ flat_map f xs))) z ∙ ap sum (take-append-le j (f x) (flat_map f xs) (omega arith)) in
    omega (arith, t)
sum-flat f n s (x ∷ xs) (suc k) j e h g i l =
    let a = first-one (λ y. length (f y) ≡ n y) x xs h in
    let b = first-one (λ y. sum (f y) ≡ s y) x xs g in
    let z : sum_by n (x ∷ take k xs) + j ≡ length (f x) + (sum_by n (take k xs) + j) = omega (arith, sum_by-cons n x (take k xs)) in
    let t = ap (λ i. sum (take i (f x ++ flat_map f xs))) z ∙ sum-past (f x) (flat_map f xs) (sum_by n (take k xs) + j) in
    let r = sum-flat f n s xs k j e (later-ones (λ y. length (f y) ≡ n y) x xs h) (later-ones (λ y. sum (f y) ≡ s y) x xs g) (omega arith) l in
    omega (arith, t, r, b, sum_by-cons s x (take k xs))

pub sum-all : {X : Type 0} (f : X → List ℕ) (s : X → ℕ) (xs : List X) → All (λ x. sum (f x) ≡ s x) xs → sum (flat_map f xs) ≡ sum_by s xs
sum-all f s [] g = refl
sum-all f s (x ∷ xs) g =
    omega (arith, sum_by-append (λ (z : ℕ). z) (f x) (flat_map f xs), first-one (λ y. sum (f y) ≡ s y) x xs g, sum-all f s xs (later-ones (λ y. sum (f y) ≡ s y) x xs g), sum_by-cons s x xs)

-- the start of a row in offsets made from lengths
begin-from : (ls : List ℕ) (a i : ℕ) → i ≤ length ls → get_or (a ∷ ends_from a ls) i 0 ≡ a + sum (take i ls)
begin-from ls a zero h = omega arith
begin-from [] a (suc i) h = absurd (omega arith)
begin-from (l ∷ ls) a (suc i) h = omega (arith, begin-from ls (a + l) i (omega arith), sum_by-cons (λ (z : ℕ). z) l (take i ls))

-- the offsets of rows of these lengths, from 0
abbrev pub ends : List ℕ → List ℕ
ends ls = 0 ∷ ends_from 0 ls

pub begin-ends : (ls : List ℕ) (i : ℕ) → i ≤ length ls → begin (ends ls) i ≡ sum (take i ls)
begin-ends ls i h = omega (arith, begin-from ls 0 i h)

ends-length : (ls : List ℕ) (a : ℕ) → length (ends_from a ls) ≡ length ls
ends-length [] a = refl
ends-length (l ∷ ls) a = ap suc (ends-length ls (a + l))

pub ends-rows : (ls : List ℕ) → count_rows (ends ls) ≡ length ls
ends-rows ls = omega (arith, ends-length ls 0)

take-whole : (ls : List ℕ) → take (length ls) ls ≡ ls
take-whole [] = refl
take-whole (l ∷ ls) = ap (◌∷◌ l) (take-whole ls)

pub ends-last : (ls : List ℕ) → last_of (ends ls) ≡ sum ls
ends-last ls =
    let e : length (ends ls) - 1 ≡ length ls = omega (arith, ends-length ls 0) in
    ap (λ k. get_or (ends ls) k 0) e ∙ begin-ends ls (length ls) (omega arith) ∙ ap sum (take-whole ls)

-- the lengths of rows between offsets
pub extents-length : (os : List ℕ) (o n : ℕ) → length (extents os o n) ≡ n
extents-length os o zero = refl
extents-length os o (suc n) = ap suc (extents-length os (o + 1) n)

rises : (os : List ℕ) (i j : ℕ) → AreOffsets os → i ≤ j → j ≤ count_rows os → begin os i ≤ begin os j
rises os i j h l m = h.1 i j l (omega (arith, h.0))

pub extents-sum : (os : List ℕ) (o n j : ℕ) → AreOffsets os → o + n ≤ count_rows os → j ≤ n → begin os o + sum (take j (extents os o n)) ≡ begin os (o + j)
extents-sum os o n zero h l m = let e : o + 0 ≡ o = omega arith in omega (arith, ap (begin os) e)
extents-sum os o zero (suc j) h l m = absurd (omega arith)
extents-sum os o (suc n) (suc j) h l m =
    let r = rises os o (o + 1) h (omega arith) (omega arith) in
    let s = extents-sum os (o + 1) n j h (omega arith) (omega arith) in
    let e : o + 1 + j ≡ o + suc j = omega arith in
    omega (arith, r, s, ap (begin os) e, sum_by-cons (λ (z : ℕ). z) (extent os o) (take j (extents os (o + 1) n)))

pub begin-rises : (os : List ℕ) (o n : ℕ) → AreOffsets os → o + n ≤ count_rows os → begin os o ≤ begin os (o + n)
begin-rises os o n h l = rises os o (o + n) h (omega arith) l

pub begin-last : (os : List ℕ) (i : ℕ) → AreOffsets os → i ≤ count_rows os → begin os i ≤ last_of os
begin-last os i h l = h.1 i (length os - 1) (omega arith) (omega (arith, h.0))

-- A window over rows between offsets, and their items.
pub record IsSpan {A : Type 0} (os : List ℕ) (xs : List A) (o n : ℕ) : Type 0 where
  pub rising : AreOffsets os
  pub inside : o + n ≤ count_rows os
  pub covered : last_of os ≤ length xs

abbrev pub items_count : List ℕ → ℕ → ℕ → ℕ
items_count os o n = begin os (o + n) - begin os o

pub span-sum : {A : Type 0} (os : List ℕ) (xs : List A) (o n : ℕ) → IsSpan os xs o n → sum (extents os o n) ≡ items_count os o n
span-sum os xs o n s =
    let e = extents-sum os o n n s.rising s.inside (omega arith) in
    let f = ap sum (sym (take-long (extents os o n) n (extents-length os o n))) in
    omega (arith, e, f, begin-rises os o n s.rising s.inside)
  where
    take-long : (ls : List ℕ) (n : ℕ) → length ls ≡ n → take n ls ≡ ls
    take-long [] zero h = refl
    take-long [] (suc n) h = absurd (omega arith)
    take-long (l ∷ ls) zero h = absurd (omega arith)
    take-long (l ∷ ls) (suc n) h = ap (◌∷◌ l) (take-long ls n (omega arith))

abbrev pub span_items : {A : Type 0} → List ℕ → List A → ℕ → ℕ → List A
span_items os xs o n = sublist xs (begin os o) (items_count os o n)

pub span-items : {A : Type 0} (os : List ℕ) (xs : List A) (o n : ℕ) → IsSpan os xs o n → length (span_items os xs o n) ≡ items_count os o n
span-items os xs o n s =
    let a = begin-last os (o + n) s.rising s.inside in
    let b = begin-rises os o n s.rising s.inside in
    let c = s.covered in
    length-cut xs (begin os o) (items_count os o n) (omega arith)

-- Consecutive windows over rows between offsets.
abbrev pub AreSpans : {X A : Type 0} → (X → List ℕ) → (X → List A) → (X → ℕ) → (X → ℕ) → List X → Type 0
AreSpans os xs o n ws = All (λ w. IsSpan (os w) (xs w) (o w) (n w)) ws

pub row-begin : {X A : Type 0} (os : X → List ℕ) (xs : X → List A) (o n : X → ℕ) (ws : List X) (k j : ℕ) (e : X) → AreSpans os xs o n ws → k < length ws → j ≤ n (get_or ws k e)
    → begin (ends (flat_map (λ w. extents (os w) (o w) (n w)) ws)) (sum_by n (take k ws) + j)
    ≡ sum_by (λ w. items_count (os w) (o w) (n w)) (take k ws) + (begin (os (get_or ws k e)) (o (get_or ws k e) + j) - begin (os (get_or ws k e)) (o (get_or ws k e)))
row-begin {X} {A} os xs o n ws k j e h l m =
    let w = get_or ws k e in
    let f = λ (w : X). extents (os w) (o w) (n w) in
    let s = λ (w : X). items_count (os w) (o w) (n w) in
    let long : AreLong f n ws = λ i d q. extents-length (os (get_or ws i d)) (o (get_or ws i d)) (n (get_or ws i d)) in
    let sums : All (λ x. sum (f x) ≡ s x) ws = λ i d q. span-sum (os (get_or ws i d)) (xs (get_or ws i d)) (o (get_or ws i d)) (n (get_or ws i d)) (h i d q) in
    let p = h k e l in
    let g = extents-sum (os w) (o w) (n w) j p.rising p.inside m in
    begin-ends (flat_map f ws) (sum_by n (take k ws) + j) (omega (arith, flat-length f n ws long, sum_by_more_le n ws k e l))
    ∙ sum-flat f n s ws k j e long sums l m
    ∙ ap (λ z. sum_by s (take k ws) + z) (let z : sum (take j (f w)) ≡ begin (os w) (o w + j) - begin (os w) (o w) = omega (arith, g) in z)

pub row-cut : {X A : Type 0} (os : X → List ℕ) (xs : X → List A) (o n : X → ℕ) (ws : List X) (k j : ℕ) (e : X) → AreSpans os xs o n ws → k < length ws → j < n (get_or ws k e)
    → sublist (flat_map (λ w. span_items (os w) (xs w) (o w) (n w)) ws)
    (begin (ends (flat_map (λ w. extents (os w) (o w) (n w)) ws)) (sum_by n (take k ws) + j))
    (extent (ends (flat_map (λ w. extents (os w) (o w) (n w)) ws)) (sum_by n (take k ws) + j))
    ≡ sublist (xs (get_or ws k e)) (begin (os (get_or ws k e)) (o (get_or ws k e) + j)) (extent (os (get_or ws k e)) (o (get_or ws k e) + j))
row-cut {X} {A} os xs o n ws k j e h l m =
    let w = get_or ws k e in
    let es = ends (flat_map (λ w. extents (os w) (o w) (n w)) ws) in
    let s = λ (w : X). items_count (os w) (o w) (n w) in
    let f = λ (w : X). span_items (os w) (xs w) (o w) (n w) in
    let p = h k e l in
    let q = sum_by n (take k ws) + j in
    let a = row-begin os xs o n ws k j e h l (omega arith) in
    let b = row-begin os xs o n ws k (j + 1) e h l (omega arith) in
    let z : q + 1 ≡ sum_by n (take k ws) + (j + 1) = omega arith in
    let y : o w + (j + 1) ≡ o w + j + 1 = omega arith in
    let c = ap (begin es) z in
    let d = ap (begin (os w)) y in
    let low = begin-rises (os w) (o w) j p.rising (omega (arith, p.inside)) in
    let high = rises (os w) (o w + j) (o w + j + 1) p.rising (omega arith) (omega (arith, p.inside)) in
    let top = rises (os w) (o w + j + 1) (o w + n w) p.rising (omega arith) p.inside in
    let x : extent es q ≡ extent (os w) (o w + j) = omega (arith, a, b, c, d, low, high) in
    let m' = begin (os w) (o w + j) - begin (os w) (o w) in
    let r : m' + extent (os w) (o w + j) ≤ items_count (os w) (o w) (n w) = omega (arith, low, high, top) in
    let t : begin (os w) (o w) + m' ≡ begin (os w) (o w + j) = omega (arith, low) in
    ap (sublist (flat_map f ws) (begin es q)) x
    ∙ ap (λ i. sublist (flat_map f ws) i (extent (os w) (o w + j))) a
    ∙ cut-flat f s ws k m' (extent (os w) (o w + j)) e (λ i d v. span-items (os (get_or ws i d)) (xs (get_or ws i d)) (o (get_or ws i d)) (n (get_or ws i d)) (h i d v)) l r
    ∙ cut-cut (xs w) (begin (os w) (o w)) (items_count (os w) (o w) (n w)) m' (extent (os w) (o w + j)) r
    ∙ ap (λ i. sublist (xs w) i (extent (os w) (o w + j))) t
