-- Offsets that never decrease: their items, their slices, and appends.
use Rattle.std.proofs.Common.{◌≡◌, ℕ, zero, suc, ◌+◌, ◌-◌, ◌≤◌, ◌<◌, true, false, List, [], ◌∷◌, ◌++◌, take, drop, length, map, arith, ap, sym, ◌∙◌, refl, get_or, length-take, length-drop, subst, add-one, append_assoc}
use Rattle.std.specs.Prelude.{ℤ, pos, negsuc, ◌&&◌, nat_le, slice_get, slice_index, Some}
use Rattle.std.specs.Cmp.{first_so, second_so}
use Rattle.std.proofs.lemmas.Bool.{leb-true, le-leb, lt-leb}
use Rattle.std.proofs.lemmas.List.{length-map, take-map, get_or-map}
use Rattle.std.proofs.lemmas.Option.{slice_get-get_or, slice_get_within}
use Rattle.std.specs.List.{drop-map}
use Rattle.std.proofs.Math.Seq.{drop-cons}
use Rattle.nest_memory.specs.Rising.{numbers, are_offsets, ends_from, rises_from, last_of, last_of-cons, below_zero, to_nat, IsNondecreasing}
use Rattle.nest_memory.specs.Sublist.{sublist}

-- ---- numbers that never decrease, from a start
pub weaken : (low n : ℕ) (zs : List ℤ) → low ≤ n → rises_from n zs ≡ true → rises_from low zs ≡ true
weaken low n [] h r = refl
weaken low n (pos m ∷ zs) h r =
    let a : low ≤ m = omega (arith, leb-true n m (first_so (nat_le n m) (rises_from m zs) r)) in
    let b = second_so (nat_le n m) (rises_from m zs) r in
    let c = le-leb low m a in
    λ i. c i && b i
weaken low n (negsuc m ∷ zs) h r = cc

pub at_least : (low : ℕ) (zs : List ℤ) (i : ℕ) (d : ℤ) → rises_from low zs ≡ true → i < length zs → low ≤ to_nat (get_or zs i d)
at_least low [] i d r h = absurd (omega arith)
at_least low (pos m ∷ zs) zero d r h = leb-true low m (first_so (nat_le low m) (rises_from m zs) r)
at_least low (pos m ∷ zs) (suc i) d r h =
    let a = leb-true low m (first_so (nat_le low m) (rises_from m zs) r) in
    let b = at_least m zs i d (second_so (nat_le low m) (rises_from m zs) r) (omega arith) in
    omega arith
at_least low (negsuc m ∷ zs) i d r h = cc

pub not_negative : (low : ℕ) (zs : List ℤ) (i : ℕ) (d : ℤ) → rises_from low zs ≡ true → i < length zs → below_zero (get_or zs i d) ≡ false
not_negative low [] i d r h = absurd (omega arith)
not_negative low (pos m ∷ zs) zero d r h = refl
not_negative low (pos m ∷ zs) (suc i) d r h = not_negative m zs i d (second_so (nat_le low m) (rises_from m zs) r) (omega arith)
not_negative low (negsuc m ∷ zs) i d r h = cc

pub in_order : (low : ℕ) (zs : List ℤ) (i : ℕ) (d e : ℤ) → rises_from low zs ≡ true → i + 1 < length zs → to_nat (get_or zs i d) ≤ to_nat (get_or zs (i + 1) e)
in_order low [] i d e r h = absurd (omega arith)
in_order low (pos m ∷ zs) zero d e r h = at_least m zs zero e (second_so (nat_le low m) (rises_from m zs) r) (omega arith)
in_order low (pos m ∷ zs) (suc i) d e r h = rw add-one (rw (← add-one) (in_order m zs i d e (second_so (nat_le low m) (rises_from m zs) r) (omega arith)))
in_order low (negsuc m ∷ zs) i d e r h = cc

pub between : (low : ℕ) (zs : List ℤ) (i j : ℕ) (d e : ℤ) → rises_from low zs ≡ true → i ≤ j → j < length zs → to_nat (get_or zs i d) ≤ to_nat (get_or zs j e)
between low [] i j d e r l h = absurd (omega arith)
between low (pos m ∷ zs) zero zero d e r l h = omega arith
between low (pos m ∷ zs) zero (suc j) d e r l h = at_least m zs j e (second_so (nat_le low m) (rises_from m zs) r) (omega arith)
between low (pos m ∷ zs) (suc i) zero d e r l h = absurd (omega arith)
between low (pos m ∷ zs) (suc i) (suc j) d e r l h = between m zs i j d e (second_so (nat_le low m) (rises_from m zs) r) (omega arith) (omega arith)
between low (negsuc m ∷ zs) i j d e r l h = cc

rises_drop : (low : ℕ) (zs : List ℤ) (o : ℕ) → rises_from low zs ≡ true → rises_from low (drop o zs) ≡ true
rises_drop low zs zero r = r
rises_drop low [] (suc o) r = refl
rises_drop low (pos m ∷ zs) (suc o) r =
    weaken low m (drop o zs) (leb-true low m (first_so (nat_le low m) (rises_from m zs) r)) (rises_drop m zs o (second_so (nat_le low m) (rises_from m zs) r))
rises_drop low (negsuc m ∷ zs) (suc o) r = cc

rises_take : (low : ℕ) (zs : List ℤ) (n : ℕ) → rises_from low zs ≡ true → rises_from low (take n zs) ≡ true
rises_take low zs zero r = refl
rises_take low [] (suc n) r = refl
rises_take low (pos m ∷ zs) (suc n) r =
    let a = first_so (nat_le low m) (rises_from m zs) r in
    let b = rises_take m zs n (second_so (nat_le low m) (rises_from m zs) r) in
    λ i. a i && b i
rises_take low (negsuc m ∷ zs) (suc n) r = cc

from_offsets : (zs : List ℤ) → are_offsets zs ≡ true → (rises_from 0 zs ≡ true) × (1 ≤ length zs)
unfolding are_offsets
from_offsets [] r = cc
from_offsets (z ∷ zs) r = (r, omega arith)

to_offsets : (zs : List ℤ) → rises_from 0 zs ≡ true → 1 ≤ length zs → are_offsets zs ≡ true
unfolding are_offsets
to_offsets [] r h = absurd (omega arith)
to_offsets (z ∷ zs) r h = r

-- ---- the loop that looks for a decrease
pub starts : (z : ℤ) (zs : List ℤ) → are_offsets (z ∷ zs) ≡ rises_from 0 (z ∷ zs)
unfolding are_offsets
starts z zs = refl

pub no_offsets : are_offsets [] ≡ false
unfolding are_offsets
no_offsets = refl

module _ {A : Type 0} (v : A → ℤ) where
  pub starts_at : (xs : List A) → 0 < length xs → are_offsets (map v xs) ≡ rises_from 0 (map v xs)
  unfolding are_offsets
  starts_at [] h = absurd (omega arith)
  starts_at (x ∷ xs) h = refl

  falls_negative : (low : ℕ) (z : ℤ) (zs : List ℤ) → below_zero z ≡ true → rises_from low (z ∷ zs) ≡ false
  falls_negative low (pos n) zs h = cc
  falls_negative low (negsuc n) zs h = refl

  pub numbers_len : (xs : List A) → length (numbers v xs) ≡ length xs
  unfolding numbers
  numbers_len xs = length-map xs _

  pub numbers_cut : (xs : List A) (o n : ℕ) → sublist (numbers v xs) o n ≡ numbers v (sublist xs o n)
  unfolding numbers
  numbers_cut xs o n = ap (take n) (drop-map _ o xs) ∙ take-map _ n (drop o xs)

  pub numbers_get : (xs : List A) (i : ℕ) (d : A) → i < length xs → slice_get (numbers v xs) i ≡ Some (to_nat (v (get_or xs i d)))
  unfolding numbers
  numbers_get xs i d h =
      let lt : i < length (map (λ x. to_nat (v x)) xs) = omega (arith, length-map xs (λ x. to_nat (v x))) in
      slice_get-get_or (map (λ x. to_nat (v x)) xs) i 0 lt ∙ ap Some (get_or-map (λ x. to_nat (v x)) xs i d 0 h)

  pub offsets_some : (xs : List A) → are_offsets (map v xs) ≡ true → 1 ≤ length xs
  offsets_some xs r = omega (arith, (from_offsets (map v xs) r).1, length-map xs v)

  pub offsets_at : (xs : List A) (i : ℕ) (d : A) → are_offsets (map v xs) ≡ true → i < length xs → below_zero (v (get_or xs i d)) ≡ false
  offsets_at xs i d r h =
      ap below_zero (sym (get_or-map v xs i d (v d) h))
      ∙ not_negative 0 (map v xs) i (v d) (from_offsets (map v xs) r).0 (omega (arith, length-map xs v))

  pub offsets_order : (xs : List A) (i : ℕ) (d e : A) → are_offsets (map v xs) ≡ true → i + 1 < length xs → to_nat (v (get_or xs i d)) ≤ to_nat (v (get_or xs (i + 1) e))
  offsets_order xs i d e r h =
      let p = in_order 0 (map v xs) i (v d) (v e) (from_offsets (map v xs) r).0 (omega (arith, length-map xs v)) in
      let a = ap to_nat (get_or-map v xs i d (v d) (omega arith)) in
      let b = ap to_nat (get_or-map v xs (i + 1) e (v e) h) in
      omega arith

  pub offsets_cut : (xs : List A) (o n : ℕ) → are_offsets (map v xs) ≡ true → o + n ≤ length xs → 1 ≤ n → are_offsets (map v (sublist xs o n)) ≡ true
  offsets_cut xs o n r h k =
      let e : take n (drop o (map v xs)) ≡ map v (sublist xs o n) = ap (take n) (drop-map v o xs) ∙ take-map v n (drop o xs) in
      to_offsets (map v (sublist xs o n))
      (subst (λ (zs : List ℤ). rises_from 0 zs ≡ true) e (rises_take 0 (drop o (map v xs)) n (rises_drop 0 (map v xs) o (from_offsets (map v xs) r).0)))
      (omega (arith, length-map (sublist xs o n) v, length-take n (drop o xs), length-drop o xs))

module _ {A : Type 0} where
  read : (ys : List A) (i : ℕ) (x : A) → slice_get ys i ≡ Some x → (i < length ys) × (x ≡ get_or ys i x)
  read ys i x e =
      let lt = slice_get_within ys i x e in
      let p = slice_get-get_or ys i x lt in
      (lt, cc)

  pub item_plain : (v : A → ℤ) (ys : List A) (i : ℕ) (x : A) → are_offsets (map v ys) ≡ true → slice_get ys i ≡ Some x → below_zero (v x) ≡ false
  item_plain v ys i x r e = let p = read ys i x e in ap (λ y. below_zero (v y)) p.1 ∙ offsets_at v ys i x r p.0

  pub item_number : (v : A → ℤ) (ys : List A) (i n : ℕ) (x : A) → slice_get ys i ≡ Some x → pos n ≡ v x → slice_get (numbers v ys) i ≡ Some n
  item_number v ys i n x e q =
      let p = read ys i x e in
      numbers_get v ys i x p.0 ∙ ap (λ y. Some (to_nat (v y))) (sym p.1) ∙ ap (λ z. Some (to_nat z)) (sym q)

  pub item_order : (v : A → ℤ) (ys : List A) (i m n : ℕ) (x y : A) → are_offsets (map v ys) ≡ true → slice_get ys i ≡ Some x → slice_get ys (i + 1) ≡ Some y → pos m ≡ v x → pos n ≡ v y → m ≤ n
  item_order v ys i m n x y r e f p q =
      let a = read ys i x e in
      let b = read ys (i + 1) y f in
      let o = offsets_order v ys i x y r b.0 in
      let c : to_nat (v (get_or ys i x)) ≡ m = ap (λ z. to_nat (v z)) (sym a.1) ∙ ap to_nat (sym p) in
      let d : to_nat (v (get_or ys (i + 1) y)) ≡ n = ap (λ z. to_nat (v z)) (sym b.1) ∙ ap to_nat (sym q) in
      omega arith

  -- one turn of the loop that looks for a decrease
  pub turn_drop : (xs : List A) (i : ℕ) (x : A) → i < length xs → x ≡ get_or xs i x → drop i xs ≡ x ∷ drop (i + 1) xs
  turn_drop xs i x h e = drop-cons xs i x h ∙ (λ k. sym e k ∷ drop (suc i) xs) ∙ (let s : suc i ≡ i + 1 = omega arith in ap (λ j. x ∷ drop j xs) s)

  pub falls_at_negative : (v : A → ℤ) (low : ℕ) (x : A) (ys : List A) → below_zero (v x) ≡ true → rises_from low (map v (x ∷ ys)) ≡ false
  falls_at_negative v low x ys h = go (v x) h
    where
      go : (z : ℤ) → below_zero z ≡ true → rises_from low (z ∷ map v ys) ≡ false
      go (pos n) h = cc
      go (negsuc n) h = refl

  pub falls_at : (v : A → ℤ) (low n : ℕ) (x : A) (ys : List A) → pos n ≡ v x → n < low → rises_from low (map v (x ∷ ys)) ≡ false
  falls_at v low n x ys e h = ap (λ z. rises_from low (z ∷ map v ys)) (sym e) ∙ ap (λ b. b && rises_from n (map v ys)) (lt-leb low n h)

  pub rises_at : (v : A → ℤ) (low n : ℕ) (x : A) (ys : List A) → pos n ≡ v x → low ≤ n → rises_from low (map v (x ∷ ys)) ≡ rises_from n (map v ys)
  rises_at v low n x ys e h = ap (λ z. rises_from low (z ∷ map v ys)) (sym e) ∙ ap (λ b. b && rises_from n (map v ys)) (le-leb low n h)

  pub numbers_push : (v : A → ℤ) (xs : List A) (x : A) (n : ℕ) → pos n ≡ v x → numbers v (xs ++ x ∷ []) ≡ numbers v xs ++ n ∷ []
  unfolding numbers
  numbers_push v [] x n e = ap (λ z. to_nat z ∷ []) (sym e)
  numbers_push v (y ∷ ys) x n e = ap (λ ns. to_nat (v y) ∷ ns) (numbers_push v ys x n e)

  pub numbers_take : (v : A → ℤ) (xs : List A) (n : ℕ) → numbers v (take n xs) ≡ take n (numbers v xs)
  unfolding numbers
  numbers_take v xs n = sym (take-map _ n xs)

pushed : (low : ℕ) (z : ℤ) (zs : List ℤ) (n : ℕ) → rises_from low (z ∷ zs) ≡ true → last_of (map to_nat (z ∷ zs)) ≤ n → rises_from low ((z ∷ zs) ++ pos n ∷ []) ≡ true
pushed low (pos m) [] n r h =
    let a = first_so (nat_le low m) true r in
    let b = le-leb m n h in
    λ i. a i && (b i && true)
pushed low (pos m) (w ∷ ws) n r h =
    let a = first_so (nat_le low m) (rises_from m (w ∷ ws)) r in
    let b = pushed m w ws n (second_so (nat_le low m) (rises_from m (w ∷ ws)) r) (omega (arith, h, last_of-cons m (to_nat w) (map to_nat ws))) in
    λ i. a i && b i
pushed low (negsuc m) zs n r h = cc

module _ {A : Type 0} where
  pub numbers_last : (v : A → ℤ) (xs : List A) (x : A) (n : ℕ) → 0 < length xs → x ≡ get_or xs (length xs - 1) x → pos n ≡ v x → n ≡ last_of (numbers v xs)
  numbers_last v xs x n h e p =
      let l : length (numbers v xs) ≡ length xs = numbers_len v xs in
      let g = numbers_get v xs (length xs - 1) x (omega arith) in
      let k = slice_get-get_or (numbers v xs) (length xs - 1) 0 (omega arith) in
      let a : to_nat (v (get_or xs (length xs - 1) x)) ≡ get_or (numbers v xs) (length xs - 1) 0 = cc in
      let b : n ≡ to_nat (v (get_or xs (length xs - 1) x)) = ap to_nat p ∙ ap (λ y. to_nat (v y)) e in
      b ∙ a ∙ sym (ap (λ k. get_or (numbers v xs) (k - 1) 0) l)

  pub item_last : (v : A → ℤ) (ys : List A) (k n : ℕ) (x : A) → slice_get ys k ≡ Some x → k ≡ length ys - 1 → pos n ≡ v x → n ≡ last_of (numbers v ys)
  item_last v ys k n x e l p =
      let a = read ys k x e in
      numbers_last v ys x n (omega (arith, a.0)) (a.1 ∙ ap (λ m. get_or ys m x) l) p

  numbers_twice : (v : A → ℤ) (xs : List A) → map to_nat (map v xs) ≡ numbers v xs
  unfolding numbers
  numbers_twice v [] = refl
  numbers_twice v (x ∷ xs) = ap (λ ns. to_nat (v x) ∷ ns) (numbers_twice v xs)

  map_push : (v : A → ℤ) (xs : List A) (y : A) (n : ℕ) → pos n ≡ v y → map v xs ++ pos n ∷ [] ≡ map v (xs ++ y ∷ [])
  map_push v [] y n e = ap (λ z. z ∷ []) e
  map_push v (x ∷ xs) y n e = ap (λ zs. v x ∷ zs) (map_push v xs y n e)

  pub offsets_push : (v : A → ℤ) (xs : List A) (y : A) (n : ℕ) → are_offsets (map v xs) ≡ true → last_of (numbers v xs) ≤ n → pos n ≡ v y → are_offsets (map v (xs ++ y ∷ [])) ≡ true
  unfolding are_offsets
  offsets_push v [] y n r h e = cc
  offsets_push v (x ∷ xs) y n r h e =
      ap (rises_from 0) (sym (map_push v (x ∷ xs) y n e))
      ∙ pushed 0 (v x) (map v xs) n r (subst (λ (ns : List ℕ). last_of ns ≤ n) (sym (numbers_twice v (x ∷ xs))) h)

  pub offsets_one : (v : A → ℤ) (y : A) (n : ℕ) → pos n ≡ v y → are_offsets (map v (y ∷ [])) ≡ true
  unfolding are_offsets
  offsets_one v y n e = ap (λ z. rises_from 0 (z ∷ [])) (sym e) ∙ (let a = le-leb 0 n (omega arith) in λ i. a i && true)

  pub offsets_take : (v : A → ℤ) (xs : List A) (n : ℕ) → are_offsets (map v xs) ≡ true → 1 ≤ n → are_offsets (map v (take n xs)) ≡ true
  unfolding are_offsets
  offsets_take v [] n r h = cc
  offsets_take v (x ∷ xs) zero r h = absurd (omega arith)
  offsets_take v (x ∷ xs) (suc n) r h = ap (rises_from 0) (sym (take-map v (suc n) (x ∷ xs))) ∙ rises_take 0 (map v (x ∷ xs)) (suc n) r

  pub first_take : (v : A → ℤ) (xs : List A) (n : ℕ) → slice_index (numbers v xs) 0 ≡ 0 → 1 ≤ n → slice_index (numbers v (take n xs)) 0 ≡ 0
  unfolding numbers
  first_take v [] n r h = ap (λ ys. slice_index (map (λ x. to_nat (v x)) ys) 0) (take_nil n) ∙ r
    where
      take_nil : (n : ℕ) → take {A = A} n [] ≡ []
      take_nil zero = refl
      take_nil (suc n) = refl
  first_take v (x ∷ xs) zero r h = absurd (omega arith)
  first_take v (x ∷ xs) (suc n) r h = r

  pub first_push : (v : A → ℤ) (xs : List A) (y : A) → are_offsets (map v xs) ≡ true → slice_index (numbers v xs) 0 ≡ 0 → slice_index (numbers v (xs ++ y ∷ [])) 0 ≡ 0
  unfolding numbers are_offsets
  first_push v [] y r h = cc
  first_push v (x ∷ xs) y r h = h

  pub take_one : (v : A → ℤ) (xs : List A) → are_offsets (map v xs) ≡ true → slice_index (numbers v xs) 0 ≡ 0 → numbers v (take 1 xs) ≡ 0 ∷ []
  unfolding numbers are_offsets
  take_one v [] r h = cc
  take_one v (x ∷ xs) r h = ap (λ n. n ∷ []) h

module _ {A : Type 0} (v : A → ℤ) where
  numbers_map : (xs : List A) → numbers v xs ≡ map to_nat (map v xs)
  numbers_map xs = sym (numbers_twice v xs)

  number_at : (xs : List A) (i : ℕ) → i < length xs → get_or (numbers v xs) i 0 ≡ to_nat (get_or (map v xs) i (pos 0))
  number_at xs i h = ap (λ ns. get_or ns i 0) (numbers_map xs) ∙ get_or-map to_nat (map v xs) i (pos 0) 0 (omega (arith, length-map xs v))

  pub numbers_never_fall : (xs : List A) → are_offsets (map v xs) ≡ true → IsNondecreasing (numbers v xs)
  numbers_never_fall xs r i j l h =
      let k : j < length xs = omega (arith, numbers_len v xs) in
      let a = number_at xs i (omega arith) in
      let b = number_at xs j k in
      let o = between 0 (map v xs) i j (pos 0) (pos 0) (from_offsets (map v xs) r).0 l (omega (arith, length-map xs v)) in
      omega arith

  pub never_fall_as : (xs : List A) (ns : List ℕ) → numbers v xs ≡ ns → are_offsets (map v xs) ≡ true → IsNondecreasing ns
  never_fall_as xs ns e r = subst IsNondecreasing e (numbers_never_fall xs r)

module _ {A : Type 0} (v : A → ℤ) where
  abbrev pub Starts : List A → Type 0
  Starts xs = (are_offsets (map v xs) ≡ true) × (slice_index (numbers v xs) 0 ≡ 0)

  pub start_one : (ys : List A) (y : A) → ys ≡ y ∷ [] → v y ≡ pos 0 → Starts ys
  unfolding numbers
  start_one ys y e h = subst Starts (sym e) (offsets_one v y 0 (sym h), ap to_nat h)

  pub numbers_one : (ys : List A) (y : A) → ys ≡ y ∷ [] → v y ≡ pos 0 → numbers v ys ≡ 0 ∷ []
  unfolding numbers
  numbers_one ys y e h = ap (numbers v) e ∙ ap (λ z. to_nat z ∷ []) h

  pub start_take : (xs ys : List A) (n : ℕ) → ys ≡ take n xs → Starts xs → 1 ≤ n → Starts ys
  start_take xs ys n e h k = subst Starts (sym e) (offsets_take v xs n h.0 k, first_take v xs n h.1 k)

  pub start_push : (xs ys : List A) (y : A) (n : ℕ) → ys ≡ xs ++ y ∷ [] → Starts xs → last_of (numbers v xs) ≤ n → v y ≡ pos n → Starts ys
  start_push xs ys y n e h l k = subst Starts (sym e) (offsets_push v xs y n h.0 l (sym k), first_push v xs y h.0 h.1)

pub last_more : (before : List ℕ) (x : ℕ) → last_of (before ++ x ∷ []) ≡ x
last_more [] x = refl
last_more (a ∷ []) x = last_of-cons a x []
last_more (a ∷ (b ∷ bs)) x = last_of-cons a b (bs ++ x ∷ []) ∙ last_more (b ∷ bs) x

last_append : (before : List ℕ) (x : ℕ) (xs : List ℕ) → last_of (before ++ x ∷ xs) ≡ last_of (x ∷ xs)
last_append [] x xs = refl
last_append (a ∷ []) x xs = last_of-cons a x xs
last_append (a ∷ (b ∷ bs)) x xs = last_of-cons a b (bs ++ x ∷ xs) ∙ last_append (b ∷ bs) x xs

-- the last end of the first i + 1 lengths
ends_step : (a : ℕ) (ls : List ℕ) (i l : ℕ) → i < length ls → l ≡ get_or ls i 0 → ends_from a (take (i + 1) ls) ≡ ends_from a (take i ls) ++ (last_of (a ∷ ends_from a (take i ls)) + l) ∷ []
ends_step a [] i l h g = absurd (omega arith)
ends_step a (m ∷ ls) zero l h g = ap (λ k. (a + k) ∷ []) (sym g)
ends_step a (m ∷ ls) (suc i) l h g =
    let s : suc i + 1 ≡ suc (i + 1) = omega arith in
    ap (λ k. ends_from a (take k (m ∷ ls))) s ∙ ap (λ ns. (a + m) ∷ ns) (ends_step (a + m) ls i l (omega arith) g)
    ∙ ap (λ k. (a + m) ∷ (ends_from (a + m) (take i ls) ++ (k + l) ∷ [])) (sym (last_of-cons a (a + m) (ends_from (a + m) (take i ls))))

pub last_before : (before ns : List ℕ) (a : ℕ) → 1 ≤ length before → last_of before ≡ a → last_of (before ++ ns) ≡ last_of (a ∷ ns)
last_before [] ns a h e = absurd (omega arith)
last_before (b ∷ []) [] a h e = e
last_before (b ∷ []) (n ∷ ns) a h e = last_of-cons b n ns ∙ sym (last_of-cons a n ns)
last_before (b ∷ (c ∷ cs)) ns a h e = last_of-cons b c (cs ++ ns) ∙ last_before (c ∷ cs) ns a (omega arith) (sym (last_of-cons b c cs) ∙ e)

-- one more length
pub ends_more : (before ls : List ℕ) (i l : ℕ) → 1 ≤ length before → i < length ls → l ≡ get_or ls i 0 → (before ++ ends_from (last_of before) (take i ls)) ++ (last_of (before ++ ends_from (last_of before) (take i ls)) + l) ∷ [] ≡ before ++ ends_from (last_of before) (take (i + 1) ls)
ends_more before ls i l n h g =
    let a = last_of before in
    let ns = ends_from a (take i ls) in
    let e = last_before before ns a n refl in
    append_assoc before ns _ ∙ ap (λ k. before ++ (ns ++ (k + l) ∷ [])) e ∙ ap (λ ms. before ++ ms) (sym (ends_step a ls i l h g))

pub ruleset rising = (numbers_len, numbers_cut, offsets_some)
