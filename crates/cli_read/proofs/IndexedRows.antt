-- Rows at indices in record batches.
use Rattle.std.proofs.Common.{◌≡◌, ℕ, zero, suc, ◌+◌, ◌<◌, ◌≤◌, Bool, true, false, if◌then◌else◌, List, [], ◌∷◌, ◌++◌, length, take, drop, get_or, map, Option, Some, None, refl, sym, ap, ◌∙◌, subst, arith, length-drop, length-append, tests}
use Rattle.std.specs.Prelude.{nat_lt, ◌&&◌}
use Rattle.std.specs.List.{AllByRecursion, list_all}
use Rattle.std.specs.List.Sorted.{IsPermutation}
use Rattle.std.proofs.lemmas.List.{get_or-drop, take_all}
use Rattle.std.proofs.lemmas.List.Elements.{All-from_recursion, recursion_from_All}
use Rattle.std.proofs.lemmas.List.Sorted.{All-permutation, IsPermutation-sym}
use Rattle.cli_rows.specs.Rows.{rows_at_indices}
use Rattle.cli_read.specs.Indices.{HaveRanks, AreIndicesInBatch}
use Rattle.cli_read.proofs.Positions.{all-both}
use Rattle.cli_read.proofs.RowsAtIndices.{rows-behind, rows-both, rows-front, rows-ranked}

abbrev AreThere : ℕ → List ℕ → Type 0
AreThere n wanted = AllByRecursion (λ p. p < n) wanted

abbrev pub at_places : {X : Type 0} → List ℕ → List X → Option (List X)
at_places wanted rows = if list_all (λ p. nat_lt p (length rows)) wanted then Some (rows_at_indices rows wanted) else None

lt-test : (p n : ℕ) → p < n → nat_lt p n ≡ true
lt-test p n h = grind (arith, tests)

test-lt : (p n : ℕ) → nat_lt p n ≡ true → p < n
test-lt p n h = grind (arith, tests)

all-true : (n : ℕ) (ps : List ℕ) → AreThere n ps → list_all (λ p. nat_lt p n) ps ≡ true
all-true n [] h = refl
all-true n (p ∷ ps) h = rw (lt-test p n h.0) (all-true n ps h.1)

and-left : (a b : Bool) → (a && b) ≡ true → a ≡ true
and-left true b e = refl
and-left false b e = absurd cc

and-right : (a b : Bool) → (a && b) ≡ true → b ≡ true
and-right true b e = e
and-right false b e = absurd cc

true-all : (n : ℕ) (ps : List ℕ) → list_all (λ p. nat_lt p n) ps ≡ true → AreThere n ps
true-all n [] e = tt
true-all n (p ∷ ps) e = (test-lt p n (and-left (nat_lt p n) (list_all (λ q. nat_lt q n) ps) e), true-all n ps (and-right (nat_lt p n) (list_all (λ q. nat_lt q n) ps) e))

all-shuffled : (n : ℕ) (ps qs : List ℕ) → IsPermutation ps qs → AreThere n ps → AreThere n qs
all-shuffled n ps qs same h = recursion_from_All (λ p. p < n) qs (All-permutation (λ p. p < n) ps qs same (All-from_recursion (λ p. p < n) ps h))

take-none : (k : ℕ) → take {A = ℕ} k [] ≡ []
take-none zero = refl
take-none (suc k) = refl

take-two : (n m : ℕ) (xs : List ℕ) → take (n + m) xs ≡ take n xs ++ take m (drop n xs)
take-two zero m xs = let e : 0 + m ≡ m = omega arith in ap (λ k. take k xs) e
take-two (suc n) m [] = take-none (suc n + m) ∙ sym (take-none m)
take-two (suc n) m (x ∷ xs) = let e : suc n + m ≡ suc (n + m) = omega arith in ap (λ k. take k (x ∷ xs)) e ∙ ap (λ zs. x ∷ zs) (take-two n m xs)

further : (n k : ℕ) (ps : List ℕ) → n ≤ k → AreThere n ps → AreThere k ps
further n k [] le h = tt
further n k (p ∷ ps) le h = (omega (arith, h.0), further n k ps le h.1)

moved : (k n : ℕ) (ps : List ℕ) → AreThere n ps → AreThere (k + n) (map (λ p. k + p) ps)
moved k n [] h = tt
moved k n (p ∷ ps) h = (omega (arith, h.0), moved k n ps h.1)

module _ {X : Type 0} where
  pub there-some : (rows : List X) (ps : List ℕ) → AreThere (length rows) ps → at_places ps rows ≡ Some (rows_at_indices rows ps)
  there-some rows ps h = ap (λ b. if b then Some (rows_at_indices rows ps) else None) (all-true (length rows) ps h)

  pub some-there : (rows : List X) (ps : List ℕ) (out : List X) → at_places ps rows ≡ Some out → AreThere (length rows) ps × (rows_at_indices rows ps ≡ out)
  some-there rows ps out e = by (list_all (λ p. nat_lt p (length rows)) ps) refl e
    where
      by : (b : Bool) → list_all (λ p. nat_lt p (length rows)) ps ≡ b → (if b then Some (rows_at_indices rows ps) else None) ≡ Some out → AreThere (length rows) ps × (rows_at_indices rows ps ≡ out)
      by true is e = (true-all (length rows) ps is, cc)
      by false is e = absurd cc

  not-there : (rows : List X) (ps : List ℕ) → (AreThere (length rows) ps → ⊥) → at_places ps rows ≡ None
  not-there rows ps h = by (list_all (λ p. nat_lt p (length rows)) ps) refl
    where
      by : (b : Bool) → list_all (λ p. nat_lt p (length rows)) ps ≡ b → (if b then Some (rows_at_indices rows ps) else None) ≡ None
      by true is = absurd (h (true-all (length rows) ps is))
      by false is = refl

  none-there : (rows : List X) (ps : List ℕ) → at_places ps rows ≡ None → AreThere (length rows) ps → ⊥
  none-there rows ps e h = let some = there-some rows ps h in cc

  pub none-at : (rows : List X) (ps : List ℕ) (i : ℕ) → i < length ps → length rows ≤ get_or ps i 0 → at_places ps rows ≡ None
  none-at rows ps i lt behind = not-there rows ps (λ h. let at = All-from_recursion (λ p. p < length rows) ps h i 0 lt in omega (arith, at, behind))

  pub none-shuffled : (rows : List X) (ps qs : List ℕ) → IsPermutation ps qs → at_places qs rows ≡ None → at_places ps rows ≡ None
  none-shuffled rows ps qs same e = not-there rows ps (λ h. none-there rows qs e (all-shuffled (length rows) ps qs same h))

  pub record More (xs ys : List X) (wanted : List ℕ) (next : ℕ) (ws : List X) (m : ℕ) : Type 0 where
    pub count : m ≤ length wanted
    pub within : AreThere (length (xs ++ ys)) (take m wanted)
    pub are : rows_at_indices xs (take next wanted) ++ ws ≡ rows_at_indices (xs ++ ys) (take m wanted)
    pub rest : m < length wanted → length (xs ++ ys) ≤ get_or wanted m 0

  pub one-more : (xs ys : List X) (wanted : List ℕ) (next passed n : ℕ) (found : List ℕ) (ws : List X) → next ≤ length wanted → AreThere (length xs) (take next wanted) → passed ≡ length xs → n ≡ length ys
      → AreIndicesInBatch (drop next wanted) passed n found → at_places found ys ≡ Some ws → More xs ys wanted next ws (next + length found)
  one-more xs ys wanted next passed n found ws le there at is w some =
      let long = length-drop next wanted in
      let both = length-append xs ys in
      let parts : take (next + length found) wanted ≡ take next wanted ++ map (λ i. passed + i) found = take-two next (length found) wanted ∙ ap (λ zs. take next wanted ++ zs) (sym w.are) in
      let later : rows_at_indices (xs ++ ys) (map (λ i. passed + i) found) ≡ ws = rows-behind xs ys passed found at ∙ (some-there ys found ws some).1 in
      let all = all-both (λ p. p < length (xs ++ ys)) (take next wanted) (map (λ i. passed + i) found)
      (further (length xs) (length (xs ++ ys)) (take next wanted) (omega (arith, both)) there)
      (further (passed + n) (length (xs ++ ys)) (map (λ i. passed + i) found) (omega (arith, both, at, is)) (moved passed n found w.within)) in
      record {
        count = omega (arith, w.count, long, le);
        within = subst (AreThere (length (xs ++ ys))) (sym parts) all;
        are =
            ap (λ zs. rows_at_indices xs (take next wanted) ++ zs) (sym later)
            ∙ ap (λ zs. zs ++ rows_at_indices (xs ++ ys) (map (λ i. passed + i) found)) (sym (rows-front xs ys (take next wanted) there))
            ∙ sym (rows-both (xs ++ ys) (take next wanted) (map (λ i. passed + i) found))
            ∙ ap (rows_at_indices (xs ++ ys)) (sym parts);
        rest = λ more.
            let behind = w.behind (omega (arith, more, long)) in
            let here = get_or-drop next wanted (length found) 0 in
            omega (arith, behind, here, both, at, is);
      }

  pub ranked : (xs : List X) (wanted risen rs : List ℕ) (next : ℕ) (taken out : List X) → IsPermutation wanted risen → length risen ≤ next → AreThere (length xs) (take next risen) → taken ≡ rows_at_indices xs (take next risen) → HaveRanks risen wanted rs
      → at_places rs taken ≡ Some out → at_places wanted xs ≡ Some out
  ranked xs wanted risen rs next taken out same over there are r some =
      let whole : take next risen ≡ risen = take_all next risen over in
      let all : AreThere (length xs) risen = subst (AreThere (length xs)) whole there in
      let is : rows_at_indices xs wanted ≡ out =
      sym (ap (rows_at_indices xs) r.0)
      ∙ sym (rows-ranked xs risen rs all r.1)
      ∙ ap (λ zs. rows_at_indices zs rs) (sym (are ∙ ap (rows_at_indices xs) whole))
      ∙ (some-there taken rs out some).1 in
      there-some xs wanted (all-shuffled (length xs) risen wanted (IsPermutation-sym wanted risen same) all) ∙ ap Some is
