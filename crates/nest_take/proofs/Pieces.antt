-- Consecutive pieces of a list, and their positions.
use Rattle.std.specs.Prelude.{List, [], ◌∷◌, ◌++◌, map, length, get_or, if◌then◌else◌}
use Rattle.std.specs.List.{All, flat_map, range_with_len, sum_by}
use Rattle.std.proofs.Common.{◌≡◌, ℕ, Bool, true, false, sum, zero, suc, ◌+◌, ◌-◌, ◌*◌, ◌<◌, ◌≤◌, take, drop, refl, ap, sym, ◌∙◌, arith, append-nil, length-append}
use Rattle.std.proofs.Math.Seq.{take-suc}
use Rattle.std.proofs.lemmas.Grind.{flat_map-append}
use Rattle.std.proofs.lemmas.List.Concat.{flat_map-cons}
use Rattle.std.proofs.lemmas.List.Elements.{All-nil, All-cons, All-append}
use Rattle.std.proofs.lemmas.List.Sums.{sum-map, sum_by-cons, sum_by_more, sum_by_more_le}
use Rattle.nest_memory.specs.Sublist.{sublist}
use Rattle.nest_memory.specs.Rising.{ends_from, last_of, largest_offset}
use Rattle.nest_model.specs.Selected.{selected}
use Rattle.nest_model.specs.SelectedLaws.{selected-range, selected-append}
use Rattle.nest_model.specs.Part.{Validity, valid_at, begin, extent, count_rows}
use Rattle.nest_model.specs.Array.{AreOffsets}
use Rattle.nest_model.specs.Reads.{extent-fits}
use Rattle.nest_model.specs.Runs.{length-cut}
use Rattle.nest_model.specs.Slot.{Slot}
use Rattle.nest_take.specs.Indices.{AreBelow, count_at, items_at}
use Rattle.nest_take.specs.Limits.{PassesOffsets}

-- a property of each index is one of the first and of the rest
pub first-place : (P : ℕ → Type 0) (i : ℕ) (is : List ℕ) → All P (i ∷ is) → P i
first-place P i is h = h 0 0 (omega arith)

pub later-indices : (P : ℕ → Type 0) (i : ℕ) (is : List ℕ) → All P (i ∷ is) → All P is
later-indices P i is h = λ j d l. h (suc j) d (omega arith)

-- the offsets of pieces of these lengths
abbrev pub ends : (ℕ → ℕ) → List ℕ → List ℕ
ends n is = 0 ∷ ends_from 0 (map n is)

begin-from : (n : ℕ → ℕ) (is : List ℕ) (a j : ℕ) → j ≤ length is → get_or (a ∷ ends_from a (map n is)) j 0 ≡ a + sum_by n (take j is)
begin-from n is a zero h = omega arith
begin-from n [] a (suc j) h = absurd (omega arith)
begin-from n (i ∷ is) a (suc j) h = omega (arith, begin-from n is (a + n i) j (omega arith), sum_by-cons n i (take j is))

-- the start and the length of piece j
pub piece-begin : (n : ℕ → ℕ) (is : List ℕ) (j : ℕ) → j ≤ length is → begin (ends n is) j ≡ sum_by n (take j is)
piece-begin n is j h = omega (arith, begin-from n is 0 j h)

pub piece-extent : (n : ℕ → ℕ) (is : List ℕ) (j : ℕ) → j < length is → extent (ends n is) j ≡ n (get_or is j 0)
piece-extent n is j h =
    let a = begin-from n is 0 j (omega arith) in
    let b = begin-from n is 0 (j + 1) (omega arith) in
    let c = sum_by_more n is j 0 h in
    omega arith

ends-length : (n : ℕ → ℕ) (is : List ℕ) (a : ℕ) → length (ends_from a (map n is)) ≡ length is
ends-length n [] a = refl
ends-length n (i ∷ is) a = ap suc (ends-length n is (a + n i))

pub ends-rows : (n : ℕ → ℕ) (is : List ℕ) → count_rows (ends n is) ≡ length is
ends-rows n is = omega (arith, ends-length n is 0)

take-whole : (is : List ℕ) → take (length is) is ≡ is
take-whole [] = refl
take-whole (i ∷ is) = ap (◌∷◌ i) (take-whole is)

pub ends-last : (n : ℕ → ℕ) (is : List ℕ) → last_of (ends n is) ≡ sum_by n is
ends-last n is =
    let e : length (ends n is) - 1 ≡ length is = omega (arith, ends-length n is 0) in
    ap (λ k. get_or (ends n is) k 0) e ∙ piece-begin n is (length is) (omega arith) ∙ ap (sum_by n) (take-whole is)

from-more : (n : ℕ → ℕ) (is : List ℕ) (a k : ℕ) → k < length is
    → ends_from a (map n (take (suc k) is)) ≡ ends_from a (map n (take k is)) ++ (a + sum_by n (take k is) + n (get_or is k 0)) ∷ []
from-more n [] a k h = absurd (omega arith)
from-more n (i ∷ is) a zero h = let e : a + n i ≡ a + sum_by n (take 0 (i ∷ is)) + n i = omega arith in ap (λ z. z ∷ []) e
from-more n (i ∷ is) a (suc k) h =
    let s = sum_by-cons n i (take k is) in
    let e : a + n i + sum_by n (take k is) + n (get_or is k 0) ≡ a + sum_by n (take (suc k) (i ∷ is)) + n (get_or is k 0) = omega (arith, s) in
    ap (◌∷◌ (a + n i)) (from-more n is (a + n i) k (omega arith) ∙ ap (λ z. ends_from (a + n i) (map n (take k is)) ++ z ∷ []) e)

-- one more piece ends at its length after the last offset, and no later than all pieces
pub ends-more : (n : ℕ → ℕ) (is es : List ℕ) (k : ℕ) → k < length is → es ≡ ends n (take k is) → es ++ (last_of es + n (get_or is k 0)) ∷ [] ≡ ends n (take (k + 1) is)
ends-more n is es k h e =
    let l = ap last_of e ∙ ends-last n (take k is) in
    let s : suc k ≡ k + 1 = omega arith in
    let a : last_of es + n (get_or is k 0) ≡ 0 + sum_by n (take k is) + n (get_or is k 0) = omega (arith, l) in
    ap (λ z. z ++ (last_of es + n (get_or is k 0)) ∷ []) e
    ∙ ap (λ z. ends n (take k is) ++ z ∷ []) a
    ∙ ap (◌∷◌ 0) (sym (from-more n is 0 k h))
    ∙ ap (λ j. ends n (take j is)) s

pub ends-within : (n : ℕ → ℕ) (is es : List ℕ) (k : ℕ) → k < length is → es ≡ ends n (take k is) → last_of es + n (get_or is k 0) ≤ sum_by n is
ends-within n is es k h e = omega (arith, ap last_of e ∙ ends-last n (take k is), sum_by_more_le n is k 0 h)

-- piece j follows the earlier ones
take-piece : {A : Type 0} (xs ys : List A) (n : ℕ) → length xs ≡ n → take n (xs ++ ys) ≡ xs
take-piece [] ys zero h = refl
take-piece [] ys (suc n) h = absurd (omega arith)
take-piece (x ∷ xs) ys zero h = absurd (omega arith)
take-piece (x ∷ xs) ys (suc n) h = ap (◌∷◌ x) (take-piece xs ys n (omega arith))

drop-piece : {A : Type 0} (xs ys : List A) (n k : ℕ) → length xs ≡ n → drop (n + k) (xs ++ ys) ≡ drop k ys
drop-piece [] ys zero k h = let e : 0 + k ≡ k = omega arith in ap (λ z. drop z ys) e
drop-piece [] ys (suc n) k h = absurd (omega arith)
drop-piece (x ∷ xs) ys zero k h = absurd (omega arith)
drop-piece (x ∷ xs) ys (suc n) k h =
    let e : suc n + k ≡ suc (n + k) = omega arith in
    ap (λ z. drop z (x ∷ (xs ++ ys))) e ∙ drop-piece xs ys n k (omega arith)

pub piece-cut : {A : Type 0} (f : ℕ → List A) (n : ℕ → ℕ) (is : List ℕ) (j : ℕ) → All (λ i. length (f i) ≡ n i) is → j < length is
    → sublist (flat_map f is) (sum_by n (take j is)) (n (get_or is j 0)) ≡ f (get_or is j 0)
piece-cut f n [] j h k = absurd (omega arith)
piece-cut f n (i ∷ is) zero h k = take-piece (f i) (flat_map f is) (n i) (first-place (λ p. length (f p) ≡ n p) i is h)
piece-cut f n (i ∷ is) (suc j) h k =
    let l = first-place (λ p. length (f p) ≡ n p) i is h in
    ap (λ s. take (n (get_or is j 0)) (drop s (f i ++ flat_map f is))) (sum_by-cons n i (take j is))
    ∙ ap (take (n (get_or is j 0))) (drop-piece (f i) (flat_map f is) (n i) (sum_by n (take j is)) l)
    ∙ piece-cut f n is j (later-indices (λ p. length (f p) ≡ n p) i is h) (omega arith)

-- pieces of one length
same-sum : (n : ℕ) (is : List ℕ) (j : ℕ) → j ≤ length is → sum_by (λ i. n) (take j is) ≡ j * n
same-sum n is zero h = omega arith
same-sum n [] (suc j) h = absurd (omega arith)
same-sum n (i ∷ is) (suc j) h = omega (arith, sum_by-cons (λ p. n) i (take j is), same-sum n is j (omega arith))

pub block-cut : {A : Type 0} (f : ℕ → List A) (n : ℕ) (is : List ℕ) (j : ℕ) → All (λ i. length (f i) ≡ n) is → j < length is
    → sublist (flat_map f is) (j * n) n ≡ f (get_or is j 0)
block-cut f n is j h k = ap (λ s. sublist (flat_map f is) s n) (sym (same-sum n is j (omega arith))) ∙ piece-cut f (λ i. n) is j h k

-- the length of all pieces
pub pieces-length : {A : Type 0} (f : ℕ → List A) (n : ℕ → ℕ) (is : List ℕ) → All (λ i. length (f i) ≡ n i) is → length (flat_map f is) ≡ sum_by n is
pieces-length f n [] h = refl
pieces-length f n (i ∷ is) h =
    omega (arith, length-append (f i) (flat_map f is), first-place (λ p. length (f p) ≡ n p) i is h, pieces-length f n is (later-indices (λ p. length (f p) ≡ n p) i is h), sum_by-cons n i is)

pub blocks-length : {A : Type 0} (f : ℕ → List A) (n : ℕ) (is : List ℕ) → All (λ i. length (f i) ≡ n) is → length (flat_map f is) ≡ length is * n
blocks-length f n is h = pieces-length f (λ i. n) is h ∙ ap (sum_by (λ i. n)) (sym (take-whole is)) ∙ same-sum n is (length is) (omega arith)

-- slots at ranges of indices are consecutive slices
pub selected-pieces : (ss : List Slot) (b n : ℕ → ℕ) (is : List ℕ) → All (λ i. b i + n i ≤ length ss) is
    → selected ss (flat_map (λ i. range_with_len (b i) (n i)) is) ≡ flat_map (λ i. sublist ss (b i) (n i)) is
selected-pieces ss b n [] h = refl
selected-pieces ss b n (i ∷ is) h =
    let e = selected-range ss (b i) (n i) (first-place (λ p. b p + n p ≤ length ss) i is h) in
    let d = selected-pieces ss b n is (later-indices (λ p. b p + n p ≤ length ss) i is h) in
    selected-append ss (range_with_len (b i) (n i)) (flat_map (λ p. range_with_len (b p) (n p)) is) ∙ ap (λ x. x ++ selected ss (flat_map (λ p. range_with_len (b p) (n p)) is)) e ∙ ap (◌++◌ (sublist ss (b i) (n i))) d

-- and those indices are in bounds
range-below : (m b n : ℕ) → b + n ≤ m → AreBelow (range_with_len b n) m
range-below m b zero h = All-nil (λ p. p < m)
range-below m b (suc n) h = All-cons (λ p. p < m) b (range_with_len (b + 1) n) (omega arith) (range-below m (b + 1) n (omega arith))

pub pieces-below : (m : ℕ) (b n : ℕ → ℕ) (is : List ℕ) → All (λ i. b i + n i ≤ m) is → AreBelow (flat_map (λ i. range_with_len (b i) (n i)) is) m
pieces-below m b n [] h = All-nil (λ p. p < m)
pieces-below m b n (i ∷ is) h =
    All-append (λ p. p < m) (range_with_len (b i) (n i)) (flat_map (λ p. range_with_len (b p) (n p)) is)
    (range-below m (b i) (n i) (first-place (λ p. b p + n p ≤ m) i is h))
    (pieces-below m b n is (later-indices (λ p. b p + n p ≤ m) i is h))

-- a range, one number longer
pub range_more : (b n : ℕ) → range_with_len b (n + 1) ≡ range_with_len b n ++ (b + n) ∷ []
range_more b zero = let e : b ≡ b + 0 = omega arith in ap (λ z. z ∷ []) e
range_more b (suc n) =
    let e : b + 1 + n ≡ b + suc n = omega arith in
    let f : suc n + 1 ≡ suc (n + 1) = omega arith in
    ap (range_with_len b) f ∙ ap (◌∷◌ b) (range_more (b + 1) n ∙ ap (λ z. range_with_len (b + 1) n ++ z ∷ []) e)

-- lengths whose sum passes the largest offset
pub passes-offsets : (large : Bool) (m : ℕ) (os : List ℕ) (va : Validity) (is ls es : List ℕ) → m ≡ largest_offset large → es ≡ 0 ∷ []
    → ls ≡ map (count_at os va) is → m < last_of es + sum ls → PassesOffsets large os va is
passes-offsets large m os va is ls es e f g h =
    let a = ap last_of f in
    let b = ap sum g in
    omega (arith, sum-map (count_at os va) is)

-- rows between offsets up to m have their items in the first m
count-le : (b : Bool) (n : ℕ) → (if b then n else 0) ≤ n
count-le true n = omega arith
count-le false n = omega arith

pub count-valid : (os : List ℕ) (va : Validity) (i : ℕ) → valid_at va i ≡ true → count_at os va i ≡ extent os i
count-valid os va i h = ap (λ b. if b then extent os i else 0) h

pub rows-within : (os : List ℕ) (va : Validity) (m : ℕ) (is : List ℕ) → AreOffsets os → last_of os ≤ m → AreBelow is (count_rows os)
    → All (λ i. begin os i + count_at os va i ≤ m) is
rows-within os va m is h l b j d k =
    let i = get_or is j d in
    let a = extent-fits os m i h l (b j d k) in
    let c = count-le (valid_at va i) (extent os i) in
    omega arith

one-more : {A : Type 0} (f : ℕ → List A) (is : List ℕ) (k : ℕ) → k < length is → flat_map f (take (k + 1) is) ≡ flat_map f (take k is) ++ f (get_or is k 0)
one-more f is k h =
    let e : k + 1 ≡ suc k = omega arith in
    let x = get_or is k 0 in
    ap (λ j. flat_map f (take j is)) e ∙ ap (flat_map f) (take-suc is k 0 h) ∙ flat_map-append f (take k is) (x ∷ [])
    ∙ ap (λ w. flat_map f (take k is) ++ w) (flat_map-cons f x [] ∙ append-nil (f x))

-- the items of the row at index j, among the items of the taken rows
pub row-items : {A : Type 0} (xs : List A) (os : List ℕ) (va : Validity) (is : List ℕ) (j : ℕ) → All (λ i. begin os i + count_at os va i ≤ length xs) is → j < length is
    → sublist (items_at xs os va is) (begin (ends (count_at os va) is) j) (extent (ends (count_at os va) is) j) ≡ sublist xs (begin os (get_or is j 0)) (count_at os va (get_or is j 0))
row-items xs os va is j h k =
    let n = count_at os va in
    let f = λ (i : ℕ). sublist xs (begin os i) (n i) in
    ap (λ b. sublist (items_at xs os va is) b (extent (ends n is) j)) (piece-begin n is j (omega arith))
    ∙ ap (sublist (items_at xs os va is) (sum_by n (take j is))) (piece-extent n is j k)
    ∙ piece-cut f n is j (λ p d l. length-cut xs (begin os (get_or is p d)) (n (get_or is p d)) (h p d l)) k

-- the items of one more row
pub items-more : {A : Type 0} (xs : List A) (os : List ℕ) (va : Validity) (is : List ℕ) (k : ℕ) (ys zs more : List A) → k < length is → ys ≡ items_at xs os va (take k is)
    → more ≡ ys ++ zs → zs ≡ sublist xs (begin os (get_or is k 0)) (count_at os va (get_or is k 0)) → more ≡ items_at xs os va (take (k + 1) is)
items-more xs os va is k ys zs more h e f g =
    let n = count_at os va in
    f ∙ ap (λ w. w ++ zs) e ∙ ap (λ w. items_at xs os va (take k is) ++ w) g ∙ sym (one-more (λ i. sublist xs (begin os i) (n i)) is k h)

-- the number of items is the sum of their counts
pub items-length : {A : Type 0} (xs : List A) (os : List ℕ) (va : Validity) (is : List ℕ) → All (λ i. begin os i + count_at os va i ≤ length xs) is
    → length (items_at xs os va is) ≡ sum_by (count_at os va) is
items-length xs os va is h =
    let n = count_at os va in
    pieces-length (λ i. sublist xs (begin os i) (n i)) n is (λ p d l. length-cut xs (begin os (get_or is p d)) (n (get_or is p d)) (h p d l))

-- equal offsets and validity have equal items
pub ends-same : (os ns : List ℕ) (va v : Validity) (is : List ℕ) → os ≡ ns → va ≡ v → ends (count_at os va) is ≡ ends (count_at ns v) is
ends-same os ns va v is e f = ap (λ z. ends (count_at z va) is) e ∙ ap (λ z. ends (count_at ns z) is) f

pub items-same : {A : Type 0} (xs ys : List A) (os ns : List ℕ) (va v : Validity) (is : List ℕ) → xs ≡ ys → os ≡ ns → va ≡ v → items_at xs os va is ≡ items_at ys ns v is
items-same xs ys os ns va v is e f g = ap (λ z. items_at z os va is) e ∙ ap (λ z. items_at ys z va is) f ∙ ap (λ z. items_at ys ns z is) g
