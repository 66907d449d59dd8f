-- One more window, or one more row.
use Rattle.std.specs.Prelude.{ℤ, pos, ◌⊎◌, IfErr, IfOk, IsOkUnless, Some, slice_get, List, [], ◌∷◌, ◌++◌, ◌||◌, is_some, map, length, get_or}
use Rattle.std.specs.List.{flat_map, sum_by}
use Rattle.std.proofs.lemmas.Bool.{le-leb}
use Rattle.std.proofs.Common.{inl, inr, leb, ◌≡◌, ℕ, Result, Ok, Err, sum, zero, suc, ◌+◌, ◌-◌, ◌<◌, ◌≤◌, Bool, true, false, take, drop, refl, ap, sym, ◌∙◌, arith, length-drop, append_assoc}
use Rattle.std.proofs.lemmas.List.{map-append, drop_all, drop_more, flat_map_more, get_or-drop, map_more, take_all, take_more}
use Rattle.std.proofs.lemmas.List.Sums.{sum_by-append, sum_by-cons, sum_by_more, sum_by_more_le}
use Rattle.std.proofs.lemmas.Option.{get_or_from_slice_get}
use Rattle.nest_memory.specs.Sublist.{sublist}
use Rattle.nest_memory.specs.Rising.{are_offsets, ends_from, numbers, rises_from, to_nat}
use Rattle.nest_model.specs.Array.{AreOffsets}
use Rattle.nest_model.specs.Part.{begin, extent, count_rows}
use Rattle.nest_model.specs.Accessors.{offsets_of, validity_of}
use Rattle.nest_array.specs.WindowParts.{WindowParts}
use Rattle.nest_concat.specs.Windows.{window_item_count, extents, extents_in, have_bits}
use Rattle.nest_concat.proofs.Pieces.{begin-rises, ends, extents-length, extents-sum}

-- one more
pub flat-more : {X A : Type 0} (f : X → List A) (xs : List X) (i : ℕ) (x : X) → i < length xs → x ≡ get_or xs i x → flat_map f (take (i + 1) xs) ≡ flat_map f (take i xs) ++ f x
flat-more f xs i x h e =
    ap (flat_map f) (take_more xs i x h) ∙ ap (λ y. flat_map f (take i xs ++ y ∷ [])) (sym e) ∙ sym (flat_map_more f [] (take i xs) x)

pub flat-all : {X A : Type 0} (f : X → List A) (xs : List X) (i : ℕ) → length xs ≤ i → flat_map f (take i xs) ≡ flat_map f xs
flat-all f xs i h = ap (flat_map f) (take_all i xs h)

pub sum-more : {X : Type 0} (f : X → ℕ) (xs : List X) (i : ℕ) (x : X) → i < length xs → x ≡ get_or xs i x → sum_by f (take (i + 1) xs) ≡ sum_by f (take i xs) + f x
sum-more f xs i x h e = sum_by_more f xs i x h ∙ ap (λ y. sum_by f (take i xs) + f y) (sym e)

pub sum-within : {X : Type 0} (f : X → ℕ) (xs : List X) (i : ℕ) (x : X) → i < length xs → x ≡ get_or xs i x → sum_by f (take i xs) + f x ≤ sum_by f xs
sum-within f xs i x h e = omega (arith, sum_by_more_le f xs i x h, ap f e)

pub map-more : {X Y : Type 0} (f : X → Y) (xs : List X) (i : ℕ) (x : X) → i < length xs → x ≡ get_or xs i x → map f (take (i + 1) xs) ≡ map f (take i xs) ++ f x ∷ []
map-more f xs i x h e = map_more f xs i x h ∙ ap (λ y. map f (take i xs) ++ f y ∷ []) (sym e)

-- offsets
from-append : (a : ℕ) (ls ms : List ℕ) → ends_from a (ls ++ ms) ≡ ends_from a ls ++ ends_from (a + sum ls) ms
from-append a [] ms = let e : a ≡ a + sum [] = omega arith in ap (λ z. ends_from z ms) e
from-append a (l ∷ ls) ms =
    let e : a + l + sum ls ≡ a + sum (l ∷ ls) = omega (arith, sum_by-cons (λ (z : ℕ). z) l ls) in
    ap (λ zs. (a + l) ∷ zs) (from-append (a + l) ls ms ∙ ap (λ z. ends_from (a + l) ls ++ ends_from z ms) e)

extents-more : (os : List ℕ) (o n : ℕ) → extents os o (n + 1) ≡ extents os o n ++ extent os (o + n) ∷ []
extents-more os o zero = let e : o ≡ o + 0 = omega arith in ap (λ z. extent os z ∷ []) e
extents-more os o (suc n) =
    let e : suc n + 1 ≡ suc (n + 1) = omega arith in
    let f : o + 1 + n ≡ o + suc n = omega arith in
    ap (extents os o) e ∙ ap (λ zs. extent os o ∷ zs) (extents-more os (o + 1) n ∙ ap (λ z. extents os (o + 1) n ++ extent os z ∷ []) f)

extents-all : (os : List ℕ) (o n : ℕ) → AreOffsets os → o + n ≤ count_rows os → begin os o + sum (extents os o n) ≡ begin os (o + n)
extents-all os o n h l =
    let e = extents-sum os o n n h l (omega arith) in
    let f = ap sum (take_all n (extents os o n) (omega (arith, extents-length os o n))) in
    omega (arith, e, f)

-- the end of one more row
pub ends-row : (a : ℕ) (os : List ℕ) (o i n : ℕ) → AreOffsets os → o + i + 1 ≤ count_rows os → n + begin os o ≡ a + begin os (o + i + 1) → ends_from a (extents os o (i + 1)) ≡ ends_from a (extents os o i) ++ n ∷ []
ends-row a os o i n h l e =
    let one : List ℕ = extent os (o + i) ∷ [] in
    let all = extents-all os o (i + 1) h (omega arith) in
    let place : o + (i + 1) ≡ o + i + 1 = omega arith in
    let parts : sum (extents os o (i + 1)) ≡ sum (extents os o i) + sum one = ap sum (extents-more os o i) ∙ sum_by-append (λ (z : ℕ). z) (extents os o i) one in
    let last : sum one ≡ extent os (o + i) = omega (arith, sum_by-cons (λ (z : ℕ). z) (extent os (o + i)) []) in
    let b : a + sum (extents os o i) + extent os (o + i) ≡ n = omega (arith, all, ap (begin os) place, parts, last, e) in
    ap (ends_from a) (extents-more os o i) ∙ from-append a (extents os o i) one ∙ ap (λ z. ends_from a (extents os o i) ++ z ∷ []) b

-- the rows of a window have all its items
pub rows-sum : (w : WindowParts) (os : List ℕ) (o n : ℕ) → AreOffsets os → o + n ≤ count_rows os → os ≡ offsets_of w.array → o ≡ w.offset → n ≡ w.count → window_item_count w ≡ sum (extents_in w)
rows-sum w os o n h l e f k =
    let all = extents-all os o n h l in
    let items : begin os (o + n) - begin os o ≡ window_item_count w = ap (λ s. begin s (o + n) - begin s o) e ∙ ap (λ z. begin (offsets_of w.array) (z + n) - begin (offsets_of w.array) z) f ∙ ap (λ z. begin (offsets_of w.array) (w.offset + z) - begin (offsets_of w.array) w.offset) k in
    let rows : sum (extents os o n) ≡ sum (extents_in w) = ap (λ s. sum (extents s o n)) e ∙ ap (λ z. sum (extents (offsets_of w.array) z n)) f ∙ ap (λ z. sum (extents (offsets_of w.array) w.offset z)) k in
    omega (arith, all, items, rows)

-- the end of a row is at most the end of its window
pub end-within : (os : List ℕ) (o i n a b base largest : ℕ) → AreOffsets os → i < n → o + n ≤ count_rows os → a ≡ begin os o → begin os (o + i + 1) ≡ b → base + begin os (o + n) ≤ largest + begin os o
    → (a ≤ b) × (base + (b - a) ≤ largest)
end-within os o i n a b base largest h l m e f r =
    let before = begin-rises os o (i + 1) h (omega arith) in
    let place : o + (i + 1) ≡ o + i + 1 = omega arith in
    let behind = begin-rises os (o + i + 1) (n - i - 1) h (omega arith) in
    let end : o + i + 1 + (n - i - 1) ≡ o + n = omega arith in
    (omega (arith, before, ap (begin os) place, e, f), omega (arith, before, ap (begin os) place, behind, ap (begin os) end, e, f, r))

-- one more offset after others
pub offset-more : {A : Type 0} (f : A → ℤ) (old es new : List A) (x : A) (ns ms : List ℕ) (n : ℕ) → map f es ≡ map f old ++ map (λ k. pos k) ns → new ≡ es ++ x ∷ [] → f x ≡ pos n → ms ≡ ns ++ n ∷ []
    → map f new ≡ map f old ++ map (λ k. pos k) ms
offset-more f old es new x ns ms n h e k m =
    ap (map f) e
    ∙ map-append f es (x ∷ [])
    ∙ ap (λ z. map f es ++ z ∷ []) k
    ∙ ap (λ zs. zs ++ pos n ∷ []) h
    ∙ append_assoc (map f old) (map (λ k. pos k) ns) (pos n ∷ [])
    ∙ ap (λ zs. map f old ++ zs) (sym (map-append (λ k. pos k) ns (n ∷ [])) ∙ ap (map (λ k. pos k)) (sym m))

-- the rows of one more window
pub ends-more : {A : Type 0} (f : A → ℤ) (ws : List WindowParts) (es new : List A) (i a : ℕ) (w : WindowParts) → i < length ws → w ≡ get_or ws i w → map f es ≡ map (λ k. pos k) (ends (flat_map extents_in (take i ws)))
    → a ≡ sum (flat_map extents_in (take i ws)) → map f new ≡ map f es ++ map (λ k. pos k) (ends_from a (extents_in w)) → map f new ≡ map (λ k. pos k) (ends (flat_map extents_in (take (i + 1) ws)))
ends-more f ws es new i a w h s e g k =
    let ls = flat_map extents_in (take i ws) in
    let start : 0 + sum ls ≡ a = omega (arith, g) in
    let more : ends (flat_map extents_in (take (i + 1) ws)) ≡ ends ls ++ ends_from a (extents_in w) =
    ap ends (flat-more extents_in ws i w h s) ∙ ap (λ zs. 0 ∷ zs) (from-append 0 ls (extents_in w) ∙ ap (λ z. ends_from 0 ls ++ ends_from z (extents_in w)) start) in
    k
    ∙ ap (λ zs. zs ++ map (λ k. pos k) (ends_from a (extents_in w))) e
    ∙ sym (map-append (λ k. pos k) (ends ls) (ends_from a (extents_in w)))
    ∙ ap (map (λ k. pos k)) (sym more)

-- the ends of rows, from 0, never decrease
ends-rise : (low a : ℕ) (ls : List ℕ) → low ≤ a → rises_from low (map (λ k. pos k) (ends_from a ls)) ≡ true
ends-rise low a [] h = refl
ends-rise low a (l ∷ ls) h =
    let first : leb low (a + l) ≡ true = le-leb _ _ (omega arith) in
    rw (first, ends-rise (a + l) (a + l) ls (omega arith)) refl

pub ends-are-offsets : {A : Type 0} (f : A → ℤ) (es : List A) (ls : List ℕ) → map f es ≡ map (λ k. pos k) (ends ls) → are_offsets (map f es) ≡ true
unfolding are_offsets
ends-are-offsets f es ls h = rw (h, ends-rise 0 0 ls (omega arith)) refl

numbers-of : (ns : List ℕ) → map to_nat (map (λ k. pos k) ns) ≡ ns
numbers-of [] = refl
numbers-of (n ∷ ns) = ap (λ zs. n ∷ zs) (numbers-of ns)

numbers-read : {A : Type 0} (f : A → ℤ) (es : List A) → map (λ x. to_nat (f x)) es ≡ map to_nat (map f es)
numbers-read f [] = refl
numbers-read f (x ∷ es) = ap (λ zs. to_nat (f x) ∷ zs) (numbers-read f es)

pub ends-are-numbers : {A : Type 0} (f : A → ℤ) (es : List A) (ns : List ℕ) → map f es ≡ map (λ k. pos k) ns → numbers f es ≡ ns
unfolding numbers
ends-are-numbers f es ns h = numbers-read f es ∙ ap (map to_nat) h ∙ numbers-of ns

-- bits of validities
pub have-more : (ws : List WindowParts) (i : ℕ) (w : WindowParts) (b : Bool) → i < length ws → w ≡ get_or ws i w → have_bits (drop i ws) ≡ have_bits ws → b ≡ is_some (validity_of w.array)
    → (b ≡ false → have_bits (drop (i + 1) ws) ≡ have_bits ws) × (b ≡ true → true ≡ have_bits ws)
have-more ws i w b h e f g =
    let a = ap have_bits (drop_more ws i w h) ∙ ap (λ x. is_some (validity_of x.array) || have_bits (drop (i + 1) ws)) (sym e) ∙ ap (λ x. x || have_bits (drop (i + 1) ws)) (sym g) in (
      λ n. sym (ap (λ x. x || have_bits (drop (i + 1) ws)) n) ∙ sym a ∙ f,
      λ n. sym (ap (λ x. x || have_bits (drop (i + 1) ws)) n) ∙ sym a ∙ f,
    )

pub have-none : (ws : List WindowParts) (i : ℕ) → length ws ≤ i → have_bits (drop i ws) ≡ have_bits ws → false ≡ have_bits ws
have-none ws i h f = sym (ap have_bits (drop_all i ws h)) ∙ f

-- one more bit of a run of bits
pub cut-more : {A : Type 0} (xs : List A) (o n : ℕ) (x : A) → o + n < length xs → slice_get xs (o + n) ≡ Some x → sublist xs o (n + 1) ≡ sublist xs o n ++ x ∷ []
cut-more xs o n x h e =
    take_more (drop o xs) n x (omega (arith, length-drop o xs))
    ∙ ap (λ y. take n (drop o xs) ++ y ∷ []) (get_or-drop o xs n x ∙ get_or_from_slice_get xs (o + n) x x e)

-- the value of an offset that was read
pub read-offset : (os : List ℕ) (i n : ℕ) → slice_get os i ≡ Some n → begin os i ≡ n
read-offset os i n e = get_or_from_slice_get os i n 0 e

pub if-ok : {A E : Type 0} (r : Result A E) (P Q : A → Type 0) → ((x : A) → P x → Q x) → IfOk r P → IfOk r Q
if-ok (Ok x) P Q f h = f x h
if-ok (Err e) P Q f h = tt

-- one of two errors is impossible
pub one-error : {A E : Type 0} (r : Result A E) (a b : E) → (r ≡ Err a → ⊥) → IfErr r (λ e. (e ≡ a) ⊎ (e ≡ b)) → IsOkUnless r b
one-error (Ok x) a b n h = tt
one-error (Err e) a b n (inl h) = absurd (n (ap Err h))
one-error (Err e) a b n (inr h) = h
