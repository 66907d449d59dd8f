-- Rows at indices in lists.
use Rattle.std.proofs.Common.{◌≡◌, ℕ, zero, suc, ◌+◌, ◌<◌, List, [], ◌∷◌, ◌++◌, length, get_or, map, refl, sym, ap, ◌∙◌, arith, append_assoc}
use Rattle.std.specs.List.{AllByRecursion}
use Rattle.nest_memory.specs.Sublist.{sublist}
use Rattle.cli_rows.specs.Rows.{rows_at_indices}

row-front : {X : Type 0} (xs ys : List X) (p : ℕ) → p < length xs → sublist (xs ++ ys) p 1 ≡ sublist xs p 1
row-front [] ys p h = absurd (omega (arith, h))
row-front (x ∷ xs) ys zero h = refl
row-front (x ∷ xs) ys (suc p) h = row-front xs ys p (omega (arith, h))

row-behind : {X : Type 0} (xs ys : List X) (p k : ℕ) → k ≡ length xs + p → sublist (xs ++ ys) k 1 ≡ sublist ys p 1
row-behind [] ys p k e = let f : k ≡ p = omega (arith, e) in ap (λ n. sublist ys n 1) f
row-behind (x ∷ xs) ys p zero e = absurd (omega (arith, e))
row-behind (x ∷ xs) ys p (suc k) e = row-behind xs ys p k (omega (arith, e))

pub rows-front : {X : Type 0} (xs ys : List X) (ps : List ℕ) → AllByRecursion (λ p. p < length xs) ps → rows_at_indices (xs ++ ys) ps ≡ rows_at_indices xs ps
rows-front xs ys [] h = refl
rows-front xs ys (p ∷ ps) h = λ i. row-front xs ys p h.0 i ++ rows-front xs ys ps h.1 i

pub rows-behind : {X : Type 0} (xs ys : List X) (k : ℕ) (ps : List ℕ) → k ≡ length xs → rows_at_indices (xs ++ ys) (map (λ p. k + p) ps) ≡ rows_at_indices ys ps
rows-behind xs ys k [] e = refl
rows-behind xs ys k (p ∷ ps) e = λ i. row-behind xs ys p (k + p) (omega (arith, e)) i ++ rows-behind xs ys k ps e i

pub rows-both : {X : Type 0} (xs : List X) (ps qs : List ℕ) → rows_at_indices xs (ps ++ qs) ≡ rows_at_indices xs ps ++ rows_at_indices xs qs
rows-both xs [] qs = refl
rows-both xs (p ∷ ps) qs = ap (λ zs. sublist xs p 1 ++ zs) (rows-both xs ps qs) ∙ sym (append_assoc (sublist xs p 1) (rows_at_indices xs ps) (rows_at_indices xs qs))

one-row : {X : Type 0} (xs : List X) (p : ℕ) → p < length xs → length (sublist xs p 1) ≡ 1
one-row [] p h = absurd (omega (arith, h))
one-row (x ∷ xs) zero h = refl
one-row (x ∷ xs) (suc p) h = one-row xs p (omega (arith, h))

row-of : {X : Type 0} (xs : List X) (ps : List ℕ) (r : ℕ) → AllByRecursion (λ p. p < length xs) ps → r < length ps → sublist (rows_at_indices xs ps) r 1 ≡ sublist xs (get_or ps r 0) 1
row-of xs [] r h lt = absurd (omega (arith, lt))
row-of xs (p ∷ ps) zero h lt = row-front (sublist xs p 1) (rows_at_indices xs ps) 0 (omega (arith, one-row xs p h.0)) ∙ take-one (sublist xs p 1) (one-row xs p h.0)
  where
    take-one : {Y : Type 0} (ys : List Y) → length ys ≡ 1 → sublist ys 0 1 ≡ ys
    take-one [] e = refl
    take-one (y ∷ []) e = refl
    take-one (y ∷ z ∷ zs) e = absurd (omega (arith, e))
row-of xs (p ∷ ps) (suc r) h lt =
    let one = one-row xs p h.0 in
    row-behind (sublist xs p 1) (rows_at_indices xs ps) r (suc r) (omega (arith, one)) ∙ row-of xs ps r h.1 (omega (arith, lt))

pub rows-ranked : {X : Type 0} (xs : List X) (ps rs : List ℕ) → AllByRecursion (λ p. p < length xs) ps → AllByRecursion (λ r. r < length ps) rs → rows_at_indices (rows_at_indices xs ps) rs ≡ rows_at_indices xs (map (λ r. get_or ps r 0) rs)
rows-ranked xs ps [] h k = refl
rows-ranked xs ps (r ∷ rs) h k = λ i. row-of xs ps r h k.0 i ++ rows-ranked xs ps rs h k.1 i
