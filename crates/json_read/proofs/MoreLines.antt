-- Lines after others, and what they are.
use Rattle.std.proofs.Common.{◌≡◌, ◌∙◌, ℕ, zero, suc, ◌+◌, ◌<◌, ◌≤◌, List, [], ◌∷◌, ◌++◌, length, take, Bool, true, false, Ok, Err, ◌==◌, if◌then◌else◌, refl, ap, arith}
use Rattle.std.specs.List.{onto_first}
use Rattle.nest_model.specs.Slot.{Slot}
use Rattle.json_read.specs.LineRows.{LineFailure, LineRow, Rows, rows_from, prepend_row, prepend_slot}
use Rattle.json_read.specs.LineSplit.{lines_of}

-- the indices of lines, counted after so many others
shift : ℕ → Rows → Rows
shift d (Ok ss) = Ok ss
shift d (Err f) = Err (d + f.0, f.1)

shift-onto : (d : ℕ) (s : Slot) (r : Rows) → prepend_slot s (shift d r) ≡ shift d (prepend_slot s r)
unfolding shift
shift-onto d s (Ok ss) = refl
shift-onto d s (Err f) = refl

module _ (row : List ℕ → LineRow) where
  shifted : (d m : ℕ) (ls : List (List ℕ)) → rows_from row (d + m) ls ≡ shift d (rows_from row m ls)
  unfolding shift
  shifted d m [] = refl
  shifted d m (l ∷ ls) = go (row l) (let e : d + m + 1 ≡ d + (m + 1) = omega arith in ap (λ k. rows_from row k ls) e ∙ shifted d (m + 1) ls)
    where
      go : (r : LineRow) → rows_from row (d + m + 1) ls ≡ shift d (rows_from row (m + 1) ls) → prepend_row r (d + m) (rows_from row (d + m + 1) ls) ≡ shift d (prepend_row r m (rows_from row (m + 1) ls))
      go (Ok s) h = ap (prepend_slot s) h ∙ shift-onto d s (rows_from row (m + 1) ls)
      go (Err e) h = refl

  behind-ok : (a : ℕ) (ls : List (List ℕ)) (ss : List Slot) → rows_from row 0 ls ≡ Ok ss → rows_from row a ls ≡ Ok ss
  unfolding shift
  behind-ok a ls ss h = ap (λ k. rows_from row k ls) (let e : a ≡ a + 0 = omega arith in e) ∙ shifted a 0 ls ∙ ap (shift a) h

  behind-err : (a : ℕ) (ls : List (List ℕ)) (k : ℕ) (e : LineFailure) → rows_from row 0 ls ≡ Err (k, e) → rows_from row a ls ≡ Err (a + k, e)
  unfolding shift
  behind-err a ls k e h = ap (λ n. rows_from row n ls) (let q : a ≡ a + 0 = omega arith in q) ∙ shifted a 0 ls ∙ ap (shift a) h

  pub both-ok : (a : ℕ) (xs ys : List (List ℕ)) (ss zs : List Slot) → rows_from row a xs ≡ Ok ss → rows_from row 0 ys ≡ Ok zs → rows_from row a (xs ++ ys) ≡ Ok (ss ++ zs)
  both-ok a [] ys ss zs h k = behind-ok a ys zs k ∙ ap (λ ts. Ok (ts ++ zs)) (let e : [] ≡ ss = cc in e)
  both-ok a (x ∷ xs) ys ss zs h k = go (row x) (rows_from row (a + 1) xs) ss h refl (λ ts e. both-ok (a + 1) xs ys ts zs e k)
    where
      go : (r : LineRow) (rest : Rows) (us : List Slot) → prepend_row r a rest ≡ Ok us → rows_from row (a + 1) xs ≡ rest → ((ts : List Slot) → rows_from row (a + 1) xs ≡ Ok ts → rows_from row (a + 1) (xs ++ ys) ≡ Ok (ts ++ zs))
          → prepend_row r a (rows_from row (a + 1) (xs ++ ys)) ≡ Ok (us ++ zs)
      go (Ok s) (Ok ts) us e q f = ap (prepend_slot s) (f ts q) ∙ ap (λ vs. Ok (vs ++ zs)) (let p : s ∷ ts ≡ us = cc in p)
      go (Ok s) (Err f') us e q f = absurd cc
      go (Err r) rest us e q f = absurd cc

  pub both-err : (a : ℕ) (xs ys : List (List ℕ)) (ss : List Slot) (k : ℕ) (e : LineFailure) → rows_from row a xs ≡ Ok ss → rows_from row 0 ys ≡ Err (k, e) → rows_from row a (xs ++ ys) ≡ Err (a + length xs + k, e)
  both-err a [] ys ss k e h g = behind-err a ys k e g ∙ ap (λ n. Err (n, e)) (let q : a + k ≡ a + 0 + k = omega arith in q)
  both-err a (x ∷ xs) ys ss k e h g = go (row x) (rows_from row (a + 1) xs) h refl (λ ts q. both-err (a + 1) xs ys ts k e q g)
    where
      go : (r : LineRow) (rest : Rows) → prepend_row r a rest ≡ Ok ss → rows_from row (a + 1) xs ≡ rest → ((ts : List Slot) → rows_from row (a + 1) xs ≡ Ok ts → rows_from row (a + 1) (xs ++ ys) ≡ Err (a + 1 + length xs + k, e))
          → prepend_row r a (rows_from row (a + 1) (xs ++ ys)) ≡ Err (a + length (x ∷ xs) + k, e)
      go (Ok s) (Ok ts) p q f = ap (prepend_slot s) (f ts q) ∙ ap (λ n. Err (n, e)) (let z : a + 1 + length xs + k ≡ a + suc (length xs) + k = omega arith in z)
      go (Ok s) (Err f') p q f = absurd cc
      go (Err r) rest p q f = absurd cc

  -- the first line at error is the first of all
  pub first-err : (a n : ℕ) (ls : List (List ℕ)) (f : ℕ × LineFailure) → rows_from row a (take n ls) ≡ Err f → rows_from row a ls ≡ Err f
  first-err a zero ls f h = absurd cc
  first-err a (suc n) [] f h = absurd cc
  first-err a (suc n) (l ∷ ls) f h = go (row l) (rows_from row (a + 1) (take n ls)) h refl (λ g e. first-err (a + 1) n ls g e)
    where
      go : (r : LineRow) (rest : Rows) → prepend_row r a rest ≡ Err f → rows_from row (a + 1) (take n ls) ≡ rest → ((g : ℕ × LineFailure) → rows_from row (a + 1) (take n ls) ≡ Err g → rows_from row (a + 1) ls ≡ Err g) → prepend_row r a (rows_from row (a + 1) ls) ≡ Err f
      go (Ok s) (Ok ts) p q k = absurd cc
      go (Ok s) (Err g) p q k = ap (prepend_slot s) (k g q) ∙ p
      go (Err r) rest p q k = p

  -- a line at error is one of them
  pub err-within : (a : ℕ) (ls : List (List ℕ)) (k : ℕ) (e : LineFailure) → rows_from row a ls ≡ Err (k, e) → k < a + length ls
  err-within a [] k e h = absurd cc
  err-within a (l ∷ ls) k e h = go (row l) (rows_from row (a + 1) ls) h (λ q. err-within (a + 1) ls k e q) refl
    where
      go : (r : LineRow) (rest : Rows) → prepend_row r a rest ≡ Err (k, e) → (rows_from row (a + 1) ls ≡ Err (k, e) → k < a + 1 + length ls) → rows_from row (a + 1) ls ≡ rest → k < a + suc (length ls)
      go (Ok s) (Ok ts) p f q = absurd cc
      go (Ok s) (Err g) p f q = omega (arith, f (q ∙ p))
      go (Err r) rest p f q =
          let pair : ◌≡◌ {A = ℕ × LineFailure} (a, r) (k, e) = cc in
          let z : a ≡ k = ap (λ x. x.0) pair in
          omega (arith, z)

few-onto : (b : ℕ) (ls : List (List ℕ)) → length (onto_first b ls) ≤ length ls + 1
few-onto b [] = omega arith
few-onto b (l ∷ ls) = omega arith

-- a text has no more lines than bytes
pub lines-few : (text : List ℕ) → length (lines_of text) ≤ length text
lines-few [] = omega arith
lines-few (b ∷ bs) = go (b == 10) (lines-few bs)
  where
    go : (t : Bool) → length (lines_of bs) ≤ length bs → length (if t then [] ∷ lines_of bs else onto_first b (lines_of bs)) ≤ suc (length bs)
    go true h = omega (arith, h)
    go false h = omega (arith, h, few-onto b (lines_of bs))
