-- A sublist of a sublist is one sublist; a sublist begins with its first item and ends with its last.
use Rattle.std.proofs.Common.{◌≡◌, ℕ, suc, ◌+◌, ◌-◌, ◌≤◌, ◌<◌, List, [], ◌∷◌, ◌++◌, take, drop, length, length-take, length-drop, get_or, arith, ap, sym, ◌∙◌}
use Rattle.std.specs.Prelude.{slice_get, Some}
use Rattle.std.proofs.lemmas.List.{drop-drop, drop-take, take-take, take_more, get_or-drop}
use Rattle.std.proofs.lemmas.Option.{slice_get-get_or, slice_get_within}
use Rattle.std.proofs.Math.Seq.{drop-cons}
use Rattle.nest_memory.specs.Sublist.{sublist}

pub cut-cut : {A : Type 0} (xs : List A) (a len o n : ℕ) → o + n ≤ length (sublist xs a len) → sublist (sublist xs a len) o n ≡ sublist xs (a + o) n
cut-cut xs a len o n h =
    let short : o + n ≤ len = omega (arith, h, length-take len (drop a xs)) in
    let whole : len ≡ o + (len - o) = omega arith in
    ap (λ m. take n (drop o (take m (drop a xs)))) whole
    ∙ ap (take n) (drop-take o (len - o) (drop a xs))
    ∙ take-take n (len - o) (drop o (drop a xs)) (omega arith)
    ∙ ap (take n) (drop-drop o a xs)

-- the same, for the list that a value represents
pub cut-shown : {A : Type 0} (xs s : List A) (a len o n : ℕ) → sublist xs a len ≡ s → o + n ≤ length s → sublist xs (a + o) n ≡ sublist s o n
cut-shown xs s a len o n e h = sym (cut-cut xs a len o n (rw e h)) ∙ ap (λ ys. sublist ys o n) e

-- a sublist within the list has the requested length
pub length-cut : {A : Type 0} (xs : List A) (o n : ℕ) → o + n ≤ length xs → length (sublist xs o n) ≡ n
length-cut xs o n h = omega (arith, length-take n (drop o xs), length-drop o xs)

module _ {A : Type 0} where
  -- an item at an index that was read
  read : (xs : List A) (i : ℕ) (x : A) → slice_get xs i ≡ Some x → (i < length xs) × (x ≡ get_or xs i x)
  read xs i x e =
      let lt = slice_get_within xs i x e in
      let p = slice_get-get_or xs i x lt in
      (lt, cc)

  from : (xs : List A) (i : ℕ) (x : A) → i < length xs → x ≡ get_or xs i x → drop i xs ≡ x ∷ drop (i + 1) xs
  from xs i x h e =
      let s : suc i ≡ i + 1 = omega arith in
      drop-cons xs i x h ∙ (λ k. sym e k ∷ drop (suc i) xs) ∙ ap (λ j. x ∷ drop j xs) s

  -- a sublist begins with its first item
  pub cut-first : (xs : List A) (f b : ℕ) (x : A) → slice_get xs f ≡ Some x → f < b → sublist xs f (b - f) ≡ x ∷ sublist xs (f + 1) (b - (f + 1))
  cut-first xs f b x e h =
      let p = read xs f x e in
      let s : b - f ≡ suc (b - (f + 1)) = omega arith in
      ap (take (b - f)) (from xs f x p.0 p.1) ∙ ap (λ m. take m (x ∷ drop (f + 1) xs)) s

  -- a sublist ends with its last item
  pub cut-last : (xs : List A) (f b : ℕ) (x : A) → slice_get xs (b - 1) ≡ Some x → f < b → sublist xs f (b - f) ≡ sublist xs f (b - 1 - f) ++ x ∷ []
  cut-last xs f b x e h =
      let p = read xs (b - 1) x e in
      let s : b - f ≡ b - 1 - f + 1 = omega arith in
      let at : f + (b - 1 - f) ≡ b - 1 = omega arith in
      let lt : b - 1 - f < length (drop f xs) = omega (arith, length-drop f xs, p.0) in
      ap (λ m. take m (drop f xs)) s
      ∙ take_more (drop f xs) (b - 1 - f) x lt
      ∙ ap (λ y. take (b - 1 - f) (drop f xs) ++ y ∷ []) (get_or-drop f xs (b - 1 - f) x ∙ ap (λ k. get_or xs k x) at ∙ sym p.1)
