-- Lists with equal prefixes.
use Rattle.std.proofs.Common.{◌≡◌, ◌⊎◌, inl, inr, ℕ, zero, suc, ◌+◌, ◌<◌, ◌≤◌, List, [], ◌∷◌, ◌++◌, length, take, drop, Some, refl, sym, ap, ◌∙◌, arith, append-nil, length-append}
use Rattle.std.proofs.lemmas.List.{take-take}
use Rattle.nest_memory.specs.Sublist.{sublist}
use Rattle.cli_rows.specs.Difference.{AreEqualUpTo, IsDifference}

module _ {A : Type 0} where
  take-behind : (front xs : List A) (k : ℕ) → take (length front + k) (front ++ xs) ≡ front ++ take k xs
  take-behind [] xs k = let e : 0 + k ≡ k = omega arith in ap (λ n. take n xs) e
  take-behind (y ∷ front) xs k = let e : length (y ∷ front) + k ≡ suc (length front + k) = omega arith in ap (λ n. take n (y ∷ front ++ xs)) e ∙ ap (λ l. y ∷ l) (take-behind front xs k)

  drop-behind : (front xs : List A) (k : ℕ) → drop (length front + k) (front ++ xs) ≡ drop k xs
  drop-behind [] xs k = let e : 0 + k ≡ k = omega arith in ap (λ n. drop n xs) e
  drop-behind (y ∷ front) xs k = let e : length (y ∷ front) + k ≡ suc (length front + k) = omega arith in ap (λ n. drop n (y ∷ front ++ xs)) e ∙ drop-behind front xs k

  pub differ-behind : (front xs ys : List A) (k : ℕ) → IsDifference xs ys (Some k) → IsDifference (front ++ xs) (front ++ ys) (Some (length front + k))
  differ-behind front xs ys k d = (
    take-behind front xs k ∙ ap (λ l. front ++ l) d.0 ∙ sym (take-behind front ys k),
    λ same. d.1 (sym (ap (take 1) (drop-behind front xs k)) ∙ same ∙ ap (take 1) (drop-behind front ys k)),
  )

  pub equal-behind : (n k : ℕ) (front xs ys : List A) → n ≤ length front + k → k ≤ length xs → k ≤ length ys → take k xs ≡ take k ys → AreEqualUpTo n (front ++ xs) (front ++ ys)
  equal-behind n k front xs ys h within other e =
      let a = length-append front xs in
      let b = length-append front ys in
      let short : (zs : List A) → take n (front ++ zs) ≡ take n (take (length front + k) (front ++ zs)) = λ zs. sym (take-take n (length front + k) (front ++ zs) h) in
      let same : take (length front + k) (front ++ xs) ≡ take (length front + k) (front ++ ys) = take-behind front xs k ∙ ap (λ l. front ++ l) e ∙ sym (take-behind front ys k) in
      (omega (arith, a, h, within), omega (arith, b, h, other), short xs ∙ ap (take n) same ∙ sym (short ys))

module _ {A : Type 0} where
  abbrev pub IsRest : ℕ → List A → List A → Type 0
  IsRest k xs more = (k < length xs) ⊎ (more ≡ [])

  take-front : (k : ℕ) (xs more : List A) → k ≤ length xs → take k (xs ++ more) ≡ take k xs
  take-front zero xs more h = refl
  take-front (suc k) [] more h = absurd (omega (arith, h))
  take-front (suc k) (x ∷ xs) more h = ap (λ l. x ∷ l) (take-front k xs more (omega (arith, h)))

  item-front : (k : ℕ) (xs more : List A) → k < length xs → sublist (xs ++ more) k 1 ≡ sublist xs k 1
  item-front zero [] more h = absurd (omega (arith, h))
  item-front zero (x ∷ xs) more h = refl
  item-front (suc k) [] more h = absurd (omega (arith, h))
  item-front (suc k) (x ∷ xs) more h = item-front k xs more (omega (arith, h))

  same-take : (k : ℕ) (xs more : List A) → IsRest k xs more → take k (xs ++ more) ≡ take k xs
  same-take k xs more (inl lt) = take-front k xs more (omega (arith, lt))
  same-take k xs more (inr none) = ap (λ l. take k (xs ++ l)) none ∙ ap (take k) (append-nil xs)

  same-item : (k : ℕ) (xs more : List A) → IsRest k xs more → sublist (xs ++ more) k 1 ≡ sublist xs k 1
  same-item k xs more (inl lt) = item-front k xs more lt
  same-item k xs more (inr none) = ap (λ l. sublist (xs ++ l) k 1) none ∙ ap (λ l. sublist l k 1) (append-nil xs)

  pub differ-whole : (k : ℕ) (xs ys more others : List A) → IsRest k xs more → IsRest k ys others → IsDifference xs ys (Some k) → IsDifference (xs ++ more) (ys ++ others) (Some k)
  differ-whole k xs ys more others rx ry d = (
    same-take k xs more rx ∙ d.0 ∙ sym (same-take k ys others ry),
    λ same. d.1 (sym (same-item k xs more rx) ∙ same ∙ same-item k ys others ry),
  )
