-- Offsets: reads by index, appends of several, and joins.
use Rattle.std.proofs.Common.{◌≡◌, ℕ, zero, suc, ◌+◌, ◌-◌, ◌≤◌, ◌<◌, true, false, List, [], ◌∷◌, ◌++◌, take, drop, length, map, replicate, sum, arith, ap, sym, ◌∙◌, refl, get_or, length-drop, subst, append_assoc}
use Rattle.std.specs.Prelude.{ℤ, pos, negsuc, ◌&&◌, ◌==◌, slice_get, slice_index, Some}
use Rattle.std.proofs.lemmas.List.{take_more, take_all, map-append, append-nil, get_or-drop}
use Rattle.std.proofs.lemmas.List.Sums.{sum_by-cons}
use Rattle.std.specs.Cmp.{first_so, second_so}
use Rattle.std.proofs.lemmas.Bool.{eqb-true}
use Rattle.std.proofs.lemmas.Option.{slice_get-get_or, slice_get_within}
use Rattle.nest_memory.specs.Rising.{numbers, are_offsets, are_offsets_from_zero, ends_from, rises_from, last_of, last_of-cons, below_zero, to_nat, IsNondecreasing}
use Rattle.nest_memory.proofs.Rises.{offsets_at, offsets_order, offsets_some, numbers_get, numbers_push, numbers_last, start_push, Starts, last_more, last_before}

module _ {A : Type 0} (v : A → ℤ) where
  -- ---- one offset, by index
  pub read_plain : (xs : List A) (i : ℕ) (x : A) → are_offsets (map v xs) ≡ true → i < length xs → x ≡ get_or xs i x → below_zero (v x) ≡ false
  read_plain xs i x r h e = ap (λ y. below_zero (v y)) e ∙ offsets_at v xs i x r h

  pub read_number : (xs : List A) (i n : ℕ) (x : A) → i < length xs → x ≡ get_or xs i x → pos n ≡ v x → slice_get (numbers v xs) i ≡ Some n
  read_number xs i n x h e q = numbers_get v xs i x h ∙ ap (λ y. Some (to_nat (v y))) (sym e) ∙ ap (λ z. Some (to_nat z)) (sym q)

  pub read_order : (xs : List A) (i m n : ℕ) (x y : A) → are_offsets (map v xs) ≡ true → i + 1 < length xs → x ≡ get_or xs i x → y ≡ get_or xs (i + 1) y → pos m ≡ v x → pos n ≡ v y → m ≤ n
  read_order xs i m n x y r h e f p q =
      let a : to_nat (v (get_or xs i x)) ≡ m = ap (λ z. to_nat (v z)) (sym e) ∙ ap to_nat (sym p) in
      let b : to_nat (v (get_or xs (i + 1) y)) ≡ n = ap (λ z. to_nat (v z)) (sym f) ∙ ap to_nat (sym q) in
      omega (arith, offsets_order v xs i x y r h, a, b)

  -- ---- offsets from 0
  pub no_rise : (xs : List A) → are_offsets (map v xs) ≡ false → false ≡ are_offsets_from_zero (map v xs)
  unfolding are_offsets are_offsets_from_zero
  no_rise [] r = refl
  no_rise (x ∷ xs) r = ap (λ b. b && (to_nat (v x) == 0)) (sym r)

  pub with_rise : (xs : List A) (n : ℕ) (x : A) → are_offsets (map v xs) ≡ true → x ≡ get_or xs 0 x → pos n ≡ v x → (n == 0) ≡ are_offsets_from_zero (map v xs)
  unfolding are_offsets are_offsets_from_zero
  with_rise [] n x r e q = cc
  with_rise (y ∷ ys) n x r e q =
      let m : n ≡ to_nat (v y) = ap to_nat q ∙ ap (λ z. to_nat (v z)) e in
      λ i. sym r i && (m i == 0)

  pub starts_from_zero : (xs : List A) → are_offsets_from_zero (map v xs) ≡ true → (are_offsets (map v xs) ≡ true) × (slice_index (numbers v xs) 0 ≡ 0)
  unfolding are_offsets are_offsets_from_zero numbers
  starts_from_zero [] r = cc
  starts_from_zero (x ∷ xs) r = (
    first_so (rises_from 0 (v x ∷ map v xs)) (to_nat (v x) == 0) r,
    eqb-true (to_nat (v x)) 0 (second_so (rises_from 0 (v x ∷ map v xs)) (to_nat (v x) == 0) r),
  )

  -- ---- the last one, repeated
  plain_value : (z : ℤ) → below_zero z ≡ false → z ≡ pos (to_nat z)
  plain_value (pos n) e = refl
  plain_value (negsuc n) e = cc

  pub last_value : (xs : List A) (x : A) → are_offsets (map v xs) ≡ true → x ≡ get_or xs (length xs - 1) x → v x ≡ pos (last_of (numbers v xs))
  last_value xs x r e =
      let some = offsets_some v xs r in
      let lt : length xs - 1 < length xs = omega arith in
      let p = plain_value (v x) (read_plain xs (length xs - 1) x r lt e) in
      p ∙ ap pos (numbers_last v xs x (to_nat (v x)) some e (sym p))

  pub numbers_append : (xs ys : List A) → numbers v (xs ++ ys) ≡ numbers v xs ++ numbers v ys
  unfolding numbers
  numbers_append xs ys = map-append (λ x. to_nat (v x)) xs ys

  numbers_same : (k : ℕ) (y : A) (n : ℕ) → pos n ≡ v y → numbers v (replicate k y) ≡ replicate k n
  unfolding numbers
  numbers_same zero y n e = refl
  numbers_same (suc k) y n e =
      let a = ap to_nat (sym e) in
      let b = numbers_same k y n e in
      λ i. a i ∷ b i

  pub numbers_repeat : (xs ys : List A) (k : ℕ) (y : A) (n : ℕ) → ys ≡ xs ++ replicate k y → pos n ≡ v y → numbers v ys ≡ numbers v xs ++ replicate k n
  numbers_repeat xs ys k y n e q = ap (numbers v) e ∙ numbers_append xs (replicate k y) ∙ ap (λ ns. numbers v xs ++ ns) (numbers_same k y n q)

  start_same : (k : ℕ) (xs : List A) (y : A) (n : ℕ) → Starts v xs → last_of (numbers v xs) ≤ n → v y ≡ pos n → Starts v (xs ++ replicate k y)
  start_same zero xs y n h l e = subst (Starts v) (sym (append-nil xs)) h
  start_same (suc k) xs y n h l e =
      let last : last_of (numbers v (xs ++ y ∷ [])) ≡ n = ap last_of (numbers_push v xs y n (sym e)) ∙ last_more (numbers v xs) n in
      subst (Starts v) (append_assoc xs (y ∷ []) (replicate k y)) (start_same k (xs ++ y ∷ []) y n (start_push v xs (xs ++ y ∷ []) y n refl h l e) (omega arith) e)

  pub start_repeat : (xs ys : List A) (k : ℕ) (y : A) (n : ℕ) → ys ≡ xs ++ replicate k y → Starts v xs → last_of (numbers v xs) ≤ n → v y ≡ pos n → Starts v ys
  start_repeat xs ys k y n e h l q = subst (Starts v) (sym e) (start_same k xs y n h l q)

module _ {A : Type 0} where
  -- the list after a `resize` to a larger length
  pub resized : (xs ys : List A) (len room k : ℕ) (y : A) → ys ≡ take room xs ++ replicate (room - len) y → len ≡ length xs → room ≡ len + k → ys ≡ xs ++ replicate k y
  resized xs ys len room k y e l r =
      let a = take_all room xs (omega arith) in
      let b : room - len ≡ k = omega arith in
      e ∙ λ i. a i ++ replicate (b i) y

-- ---- several lengths
last_end : (a : ℕ) (ls : List ℕ) → last_of (a ∷ ends_from a ls) ≡ a + sum ls
last_end a [] = omega arith
last_end a (l ∷ ls) =
    let e = sum_by-cons (λ x. x) l ls in
    let r = last_end (a + l) ls in
    let c = last_of-cons a (a + l) (ends_from (a + l) ls) in
    omega arith

pub last_ends : (before ls : List ℕ) → 1 ≤ length before → last_of (before ++ ends_from (last_of before) ls) ≡ last_of before + sum ls
last_ends before ls h = last_before before (ends_from (last_of before) ls) (last_of before) h refl ∙ last_end (last_of before) ls

-- ---- offsets after other offsets
pub joined_more : (ms ns : List ℕ) (i n : ℕ) → slice_get ns (i + 1) ≡ Some n → (ms ++ map (λ k. last_of ms + k) (take i (drop 1 ns))) ++ (last_of ms + n) ∷ [] ≡ ms ++ map (λ k. last_of ms + k) (take (i + 1) (drop 1 ns))
joined_more ms ns i n e =
    let f = λ (k : ℕ). last_of ms + k in
    let w = slice_get_within ns (i + 1) n e in
    let lt : i < length (drop 1 ns) = omega (arith, length-drop 1 ns) in
    let p : 1 + i ≡ i + 1 = omega arith in
    let g = slice_get-get_or ns (i + 1) 0 w in
    let here : get_or (drop 1 ns) i 0 ≡ n = get_or-drop 1 ns i 0 ∙ ap (λ k. get_or ns k 0) p ∙ cc in
    append_assoc ms (map f (take i (drop 1 ns))) (f n ∷ [])
    ∙ ap (λ xs. ms ++ xs) (sym (map-append f (take i (drop 1 ns)) (n ∷ [])))
    ∙ ap (λ x. ms ++ map f (take i (drop 1 ns) ++ x ∷ [])) (sym here)
    ∙ ap (λ xs. ms ++ map f xs) (sym (take_more (drop 1 ns) i 0 lt))

-- an index that was read
pub index_read : (ns : List ℕ) (i n : ℕ) → slice_get ns i ≡ Some n → slice_index ns i ≡ n
index_read ns i n e =
    let g = slice_get-get_or ns i 0 (slice_get_within ns i n e) in
    cc

-- no offset exceeds the last one
pub within_last : (ns : List ℕ) (i n : ℕ) → IsNondecreasing ns → slice_get ns i ≡ Some n → n ≤ last_of ns
within_last ns i n rising e =
    let w = slice_get_within ns i n e in
    let g = slice_get-get_or ns i 0 w in
    let here : get_or ns i 0 ≡ n = cc in
    let low = rising i (length ns - 1) (omega arith) (omega arith) in
    omega arith
