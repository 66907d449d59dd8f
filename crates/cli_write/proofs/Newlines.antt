-- Texts that end with a newline.
use Rattle.std.proofs.Common.{◌≡◌, ◌≢◌, ◌∙◌, ◌⊎◌, inl, inr, ℕ, zero, suc, ◌+◌, ◌%◌, ◌<◌, ◌==◌, Bool, true, false, List, [], ◌∷◌, ◌++◌, length, take, drop, if◌then◌else◌, refl, ap, sym, subst, arith, eqb-true}
use Rattle.std.specs.Prelude.{slice_index}
use Rattle.std.specs.List.{onto_first}
use Rattle.std.proofs.lemmas.List.{length-append, take_all}
use Rattle.json_read.specs.LineSplit.{AreFirstLines, EndsLines, lines_of}
use Rattle.cli_write.specs.LineBuffers.{AreWholeLines, HasNewline, HasLine, EndsWithNewline}

onto-front : (b : ℕ) (ls ms : List (List ℕ)) → ls ≢ [] → onto_first b (ls ++ ms) ≡ onto_first b ls ++ ms
onto-front b [] ms h = absurd (h refl)
onto-front b (l ∷ ls) ms h = refl

line-there : (b : ℕ) (bs : List ℕ) → lines_of (b ∷ bs) ≢ []
line-there b bs = by (b == 10)
  where
    onto : (ls : List (List ℕ)) → onto_first b ls ≢ []
    onto [] = λ e. absurd cc
    onto (l ∷ ls) = λ e. absurd cc

    by : (t : Bool) → (if t then [] ∷ lines_of bs else onto_first b (lines_of bs)) ≢ []
    by true = λ e. absurd cc
    by false = onto (lines_of bs)

pub fed-ends : (xs : List ℕ) → EndsWithNewline xs → EndsLines xs
fed-ends [] h more = refl
fed-ends (b ∷ []) h more = subst (λ c. lines_of (c ∷ more) ≡ lines_of (c ∷ []) ++ lines_of more) (sym h) refl
fed-ends (b ∷ c ∷ bs) h more = by (b == 10) (fed-ends (c ∷ bs) h more)
  where
    by : (t : Bool) → lines_of ((c ∷ bs) ++ more) ≡ lines_of (c ∷ bs) ++ lines_of more
        → (if t then [] ∷ lines_of ((c ∷ bs) ++ more) else onto_first b (lines_of ((c ∷ bs) ++ more))) ≡ (if t then [] ∷ lines_of (c ∷ bs) else onto_first b (lines_of (c ∷ bs))) ++ lines_of more
    by true e = ap (λ ls. [] ∷ ls) e
    by false e = ap (onto_first b) e ∙ onto-front b (lines_of (c ∷ bs)) (lines_of more) (line-there c bs)

pub fed-drop : (k : ℕ) (xs : List ℕ) → EndsWithNewline xs → EndsWithNewline (drop k xs)
fed-drop zero xs h = h
fed-drop (suc k) [] h = tt
fed-drop (suc k) (b ∷ []) h = fed-drop k [] tt
fed-drop (suc k) (b ∷ c ∷ bs) h = fed-drop k (c ∷ bs) h

feed-below : (xs : List ℕ) (i : ℕ) → i < length xs → (slice_index xs i == 10) ≡ true → EndsWithNewline (take (suc i) xs)
feed-below [] i l f = absurd (omega (arith, l))
feed-below (x ∷ xs) zero l f = eqb-true x 10 f
feed-below (x ∷ []) (suc i) l f = absurd (omega (arith, l))
feed-below (x ∷ y ∷ xs) (suc i) l f = feed-below (y ∷ xs) i (omega (arith, l)) f

pub feed-fed : (xs : List ℕ) (i : ℕ) → i < length xs → (slice_index xs i == 10) ≡ true → EndsWithNewline (take (i + 1) xs)
feed-fed xs i l f = let e : suc i ≡ i + 1 = omega arith in subst (λ n. EndsWithNewline (take n xs)) e (feed-below xs i l f)

index-front : (xs ys : List ℕ) (i : ℕ) → i < length xs → slice_index (xs ++ ys) i ≡ slice_index xs i
index-front [] ys i l = absurd (omega (arith, l))
index-front (x ∷ xs) ys zero l = refl
index-front (x ∷ xs) ys (suc i) l = index-front xs ys i (omega (arith, l))

index-behind : (xs ys : List ℕ) (i j : ℕ) → j ≡ length xs + i → slice_index (xs ++ ys) j ≡ slice_index ys i
index-behind [] ys i j e = ap (slice_index ys) (omega (arith, e))
index-behind (x ∷ xs) ys i zero e = absurd (omega (arith, e))
index-behind (x ∷ xs) ys i (suc j) e = index-behind xs ys i j (omega (arith, e))

pub has-more : (xs ys zs : List ℕ) → zs ≡ xs ++ ys → HasNewline ys ⊎ HasNewline xs → HasNewline zs
has-more xs ys zs e (inl h) = subst HasNewline (sym e) (length xs + h.0, omega (arith, h.1, length-append xs ys), index-behind xs ys h.0 _ refl ∙ h.2)
has-more xs ys zs e (inr h) = subst HasNewline (sym e) (h.0, omega (arith, h.1, length-append xs ys), index-front xs ys h.0 h.1 ∙ h.2)

pub counted : (m n : ℕ) → 0 < (m + n) % 18446744073709551616 → (0 < m) ⊎ (0 < n)
counted zero zero h = absurd (omega (arith, h))
counted zero (suc n) h = inr (omega arith)
counted (suc m) n h = inl (omega arith)

no-line : (text : List ℕ) → length (lines_of text) ≡ 0 → text ≡ []
no-line [] h = refl
no-line (b ∷ bs) h = by (lines_of (b ∷ bs)) (line-there b bs) h
  where
    by : (ls : List (List ℕ)) → ls ≢ [] → length ls ≡ 0 → (b ∷ bs) ≡ []
    by [] there h = absurd (there refl)
    by (l ∷ ls) there h = absurd (omega (arith, h))

pub some-lines : (text : List ℕ) (limit used count : ℕ) → AreFirstLines text limit used count → 0 < limit → text ≢ [] → 0 < count
some-lines text limit used (suc count) h some there = omega arith
some-lines text limit used zero h some there =
    let all : used ≡ length text = h.complete (omega (arith, some)) in
    let whole : take used text ≡ text = take_all used text (omega (arith, all)) in
    absurd (there (no-line text (ap (λ (t : List ℕ). length (lines_of t)) (sym whole) ∙ h.counted)))

taken-there : (n : ℕ) (text : List ℕ) → 0 < n → 0 < length text → take n text ≢ []
taken-there zero text l m = absurd (omega (arith, l))
taken-there (suc n) [] l m = absurd (omega (arith, m))
taken-there (suc n) (b ∷ bs) l m = λ e. absurd cc

pub whole-there : (over : Bool) (text : List ℕ) (n : ℕ) → AreWholeLines over text n → (HasNewline text → 0 < n) → HasLine over text → take n text ≢ []
whole-there over text n whole some (inl feed) = taken-there n text (some feed) (omega (arith, feed.1))
whole-there over text n whole some (inr end) = λ e. end.1 (sym (subst (λ (o : Bool). AreWholeLines o text n) end.0 whole) ∙ e)
