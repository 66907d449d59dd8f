-- Rows of arrays one after another, and slices of them.
use Rattle.std.proofs.Common.{◌≡◌, ℕ, zero, suc, ◌+◌, ◌-◌, ◌<◌, ◌≤◌, min, List, [], ◌∷◌, ◌++◌, length, take, drop, get_or, map, refl, sym, ap, ◌∙◌, arith, append_assoc, append-nil, length-drop}
use Rattle.std.specs.List.{flat_map}
use Rattle.std.proofs.lemmas.List.{length-map, drop_all, drop_more, drop_min, flat_map_more, take_all, take_min, take_more, take-map}
use Rattle.std.proofs.lemmas.List.Folds.{flat_map-map}
use Rattle.nest_memory.specs.Sublist.{sublist}
use Rattle.nest_model.specs.Layout.{Layout, layout_type}
use Rattle.nest_model.specs.Meaning.{len, slots_of}
use Rattle.nest_model.specs.Reads.{slots-length}
use Rattle.nest_array.specs.Seen.{layout_of}
use Rattle.nest_array.specs.WindowParts.{WindowParts, window_parts}
use Rattle.nest_array.specs.declared.any.AnyArray.{AnyArray}
use Rattle.cli_rows.specs.Rows.{RowSlot, rows_in, rows_of}

-- ---- lists

pub drop-both : {X : Type 0} (n : ℕ) (xs ys : List X) → drop n (xs ++ ys) ≡ drop n xs ++ drop (n - length xs) ys
drop-both zero xs ys = let e : 0 ≡ 0 - length xs = omega arith in ap (λ k. xs ++ drop k ys) e
drop-both (suc n) [] ys = let e : suc n ≡ suc n - 0 = omega arith in ap (λ k. drop k ys) e
drop-both (suc n) (x ∷ xs) ys = let e : n - length xs ≡ suc n - length (x ∷ xs) = omega arith in drop-both n xs ys ∙ ap (λ k. drop n xs ++ drop k ys) e

take-both : {X : Type 0} (n : ℕ) (xs ys : List X) → take n (xs ++ ys) ≡ take n xs ++ take (n - length xs) ys
take-both zero xs ys = let e : 0 ≡ 0 - length xs = omega arith in ap (λ k. take k ys) e
take-both (suc n) [] ys = let e : suc n ≡ suc n - 0 = omega arith in ap (λ k. take k ys) e
take-both (suc n) (x ∷ xs) ys = let e : n - length xs ≡ suc n - length (x ∷ xs) = omega arith in ap (λ zs. x ∷ zs) (take-both n xs ys ∙ ap (λ k. take n xs ++ take k ys) e)

pub sublist-both : {X : Type 0} (xs ys : List X) (o n : ℕ) → sublist (xs ++ ys) o n ≡ sublist xs o n ++ sublist ys (o - length xs) (n - (length xs - o))
sublist-both xs ys o n =
    ap (take n) (drop-both o xs ys)
    ∙ take-both n (drop o xs) (drop (o - length xs) ys)
    ∙ ap (λ k. take n (drop o xs) ++ take (n - k) (drop (o - length xs) ys)) (length-drop o xs)

-- a slice of two lists, one after the other
cut-both : {X : Type 0} (xs ys : List X) (o n from many : ℕ) → from ≡ min o (length xs) → many ≡ min n (length xs - from)
    → sublist (xs ++ ys) o n ≡ sublist xs from many ++ sublist ys (o - from) (n - many)
cut-both xs ys o n from many f m =
    let at : o - length xs ≡ o - from = omega arith in
    let long = length-drop o xs in
    let left : n - length (drop o xs) ≡ n - many = omega arith in
    let same : drop o xs ≡ drop from xs = sym (drop_min o xs) ∙ ap (λ k. drop k xs) (sym f) in
    let many_is : many ≡ min n (length (drop from xs)) = m ∙ ap (min n) (sym (length-drop from xs)) in
    let front : take n (drop o xs) ≡ sublist xs from many = ap (take n) same ∙ sym (take_min n (drop from xs)) ∙ ap (λ k. take k (drop from xs)) (sym many_is) in
    ap (take n) (drop-both o xs ys)
    ∙ take-both n (drop o xs) (drop (o - length xs) ys)
    ∙ ap (λ k. take n (drop o xs) ++ take k (drop (o - length xs) ys)) left
    ∙ ap (λ k. take n (drop o xs) ++ take (n - many) (drop k ys)) at
    ∙ ap (λ zs. zs ++ sublist ys (o - from) (n - many)) front

drop-map : {X Y : Type 0} (f : X → Y) (n : ℕ) (xs : List X) → drop n (map f xs) ≡ map f (drop n xs)
drop-map f zero xs = refl
drop-map f (suc n) [] = refl
drop-map f (suc n) (x ∷ xs) = drop-map f n xs

pub cut-map : {X Y : Type 0} (f : X → Y) (xs : List X) (o n : ℕ) → sublist (map f xs) o n ≡ map f (sublist xs o n)
cut-map f xs o n = ap (take n) (drop-map f o xs) ∙ take-map f n (drop o xs)

-- a slice within the first of two lists
pub cut-front : {X : Type 0} (front behind : List X) (o n : ℕ) → o + n ≤ length front → sublist front o n ≡ sublist (front ++ behind) o n
cut-front [] behind zero zero h = refl
cut-front [] behind zero (suc n) h = absurd (omega arith)
cut-front [] behind (suc o) n h = absurd (omega arith)
cut-front (z ∷ zs) behind zero zero h = refl
cut-front (z ∷ zs) behind zero (suc n) h = ap (λ l. z ∷ l) (cut-front zs behind zero n (omega (arith, h)))
cut-front (z ∷ zs) behind (suc o) n h = cut-front zs behind o n (omega (arith, h))

pub cut-none : {X : Type 0} (o n : ℕ) → sublist {A = X} [] o n ≡ []
cut-none zero zero = refl
cut-none zero (suc n) = refl
cut-none (suc o) zero = refl
cut-none (suc o) (suc n) = refl

-- ---- rows

-- the rows of the arrays from one on
abbrev pub rows_behind : List AnyArray → ℕ → List RowSlot
rows_behind xs i = flat_map rows_of (map layout_of (drop i xs))

pub behind-more : (xs : List AnyArray) (i : ℕ) (x : AnyArray) → i < length xs → x ≡ get_or xs i x → rows_behind xs i ≡ rows_of (layout_of x) ++ rows_behind xs (i + 1)
behind-more xs i x h e =
    ap (λ ys. flat_map rows_of (map layout_of ys)) (drop_more xs i x h)
    ∙ ap (λ y. rows_of (layout_of y) ++ rows_behind xs (i + 1)) (sym e)

pub behind-none : (xs : List AnyArray) (i : ℕ) → length xs ≤ i → rows_behind xs i ≡ []
behind-none xs i h = ap (λ ys. flat_map rows_of (map layout_of ys)) (drop_all i xs h)

pub rows-length : (a : Layout) → length (rows_of a) ≡ len a
rows-length a = length-map (slots_of a) (λ s. (layout_type a, s)) ∙ slots-length a

-- the rows of a window are a slice of the rows of its array
pub window-rows : (a : Layout) (o n : ℕ) → rows_in (window_parts a o n) ≡ sublist (rows_of a) o n
window-rows a o n = sym (cut-map (λ s. (layout_type a, s)) (slots_of a) o n)

-- one more window of a slice, and the rest of the slice
pub cut-more : (xs : List AnyArray) (i : ℕ) (x : AnyArray) (o n from many : ℕ) (old new : List WindowParts) (w : WindowParts) (whole : List RowSlot)
    → i < length xs → x ≡ get_or xs i x → from ≡ min o (len (layout_of x)) → many ≡ min n (len (layout_of x) - from) → w ≡ window_parts (layout_of x) from many → new ≡ old ++ w ∷ []
    → flat_map rows_in old ++ sublist (rows_behind xs i) o n ≡ whole
    → flat_map rows_in new ++ sublist (rows_behind xs (i + 1)) (o - from) (n - many) ≡ whole
cut-more xs i x o n from many old new w whole h e f m is pushed so_far =
    let a = layout_of x in
    let l = rows-length a in
    let from_is : from ≡ min o (length (rows_of a)) = f ∙ ap (min o) (sym l) in
    let many_is : many ≡ min n (length (rows_of a) - from) = m ∙ ap (λ k. min n (k - from)) (sym l) in
    let after = sublist (rows_behind xs (i + 1)) (o - from) (n - many) in
    let one : sublist (rows_behind xs i) o n ≡ rows_in w ++ after =
    ap (λ rs. sublist rs o n) (behind-more xs i x h e)
    ∙ cut-both (rows_of a) (rows_behind xs (i + 1)) o n from many from_is many_is
    ∙ ap (λ rs. rs ++ after) (sym (window-rows a from many) ∙ ap rows_in (sym is)) in
    ap (λ ws. flat_map rows_in ws ++ after) pushed
    ∙ ap (λ rs. rs ++ after) (sym (flat_map_more rows_in [] old w))
    ∙ append_assoc (flat_map rows_in old) (rows_in w) after
    ∙ ap (λ rs. flat_map rows_in old ++ rs) (sym one)
    ∙ so_far

pub cut-end : (xs : List AnyArray) (i o n : ℕ) (windows : List WindowParts) (whole : List RowSlot) → length xs ≤ i
    → flat_map rows_in windows ++ sublist (rows_behind xs i) o n ≡ whole → flat_map rows_in windows ≡ whole
cut-end xs i o n windows whole h so_far =
    sym (append-nil (flat_map rows_in windows))
    ∙ ap (λ rs. flat_map rows_in windows ++ rs) (sym (cut-none o n) ∙ ap (λ rs. sublist rs o n) (sym (behind-none xs i h)))
    ∙ so_far

-- one more item of a flat map
pub flat-more : {X Y A : Type 0} (f : Y → List A) (g : X → List A) (xs : List X) (i : ℕ) (x : X) (old new : List Y) (y : Y) → i < length xs → x ≡ get_or xs i x → new ≡ old ++ y ∷ [] → f y ≡ g x
    → flat_map f old ≡ flat_map g (take i xs) → flat_map f new ≡ flat_map g (take (i + 1) xs)
flat-more f g xs i x old new y h e pushed same so_far =
    ap (flat_map f) pushed
    ∙ sym (flat_map_more f [] old y)
    ∙ ap (λ bs. bs ++ f y) so_far
    ∙ ap (λ bs. flat_map g (take i xs) ++ bs) same
    ∙ flat_map_more g [] (take i xs) x
    ∙ ap (λ z. flat_map g (take i xs ++ z ∷ [])) e
    ∙ ap (flat_map g) (sym (take_more xs i x h))

-- the same for rows that are appended
pub rows-more : {X A : Type 0} (g : X → List A) (xs : List X) (i : ℕ) (x : X) (old new : List A) → i < length xs → x ≡ get_or xs i x → new ≡ old ++ g x
    → old ≡ flat_map g (take i xs) → new ≡ flat_map g (take (i + 1) xs)
rows-more g xs i x old new h e pushed so_far =
    pushed
    ∙ ap (λ bs. bs ++ g x) so_far
    ∙ flat_map_more g [] (take i xs) x
    ∙ ap (λ z. flat_map g (take i xs ++ z ∷ [])) e
    ∙ ap (flat_map g) (sym (take_more xs i x h))

-- all rows of an array, as a window
pub whole-rows : (a : Layout) (w : WindowParts) → w ≡ window_parts a 0 (len a) → rows_in w ≡ rows_of a
whole-rows a w e = ap rows_in e ∙ window-rows a 0 (len a) ∙ take_all (len a) (rows_of a) (let l = rows-length a in omega arith)

pub all-behind : (xs : List AnyArray) (i : ℕ) → length xs ≤ i → flat_map (λ a. rows_of (layout_of a)) (take i xs) ≡ flat_map rows_of (map layout_of xs)
all-behind xs i h = ap (flat_map (λ a. rows_of (layout_of a))) (take_all i xs h) ∙ sym (flat_map-map rows_of layout_of xs)
