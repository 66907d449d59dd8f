-- The numbers of a text are those that have it, and no others have it.
use Rattle.std.specs.Prelude.{is_some, if◌then◌else◌}
use Rattle.std.proofs.Common.{◌≡◌, ℕ, zero, suc, ◌+◌, ◌-◌, ◌^◌, ◌<◌, ℤ, pos, negsuc, neg_ℤ, ◌+ℤ◌, Bool, true, false, List, [], ◌∷◌, length, Option, Some, None, refl, sym, ap, ◌∙◌, subst, arith}
use Rattle.std.proofs.lemmas.Bool.{false≢true}
use Rattle.std.proofs.lemmas.Option.{same_Some}
use Rattle.std.proofs.lemmas.Slice.Eq.{bytes_eq-Decides}
use Rattle.std.specs.Int.Signed.{mag}
use Rattle.std.specs.Option.{option_map}
use Rattle.std.proofs.Math.IntN.{+ℤ_idr}
use Rattle.json_write.proofs.Signed.{signed}
use Rattle.json_read.specs.TextNumbers.{first_found, first_result, numbers_that, has_text, numbers_of_text}
use Rattle.json_write.proofs.OneText.{one-text, count-told}
use Rattle.json_write.specs.Formats.{text_of_numbers, numbers_count}
use Rattle.json_write.specs.TypedSlots.{NumbersFitIn128Bits}
use Rattle.json_write.specs.declared.format.ValueFormat.{ValueFormat}

nothing : (zs : List ℤ) → None ≡ Some zs → ⊥
nothing zs e = false≢true (ap is_some e)

-- a result, and where it is
record IsResult (f : ℤ → Option (List ℤ)) (zs : List ℤ) : Type 0 where
  pub at : ℤ
  pub found : f at ≡ Some zs

pub record HasValue (o : Option (List ℤ)) : Type 0 where
  pub value : List ℤ
  pub found : o ≡ Some value

first-none : (f : ℤ → Option (List ℤ)) (z : ℤ) → first_result f z 0 ≡ None
unfolding first_result
first-none f z = refl

first-more : (f : ℤ → Option (List ℤ)) (z : ℤ) (n : ℕ) → first_result f z (suc n) ≡ first_found (f z) (first_result f (z +ℤ pos 1) n)
unfolding first_result
first-more f z n = refl

result-go : (f : ℤ → Option (List ℤ)) (z : ℤ) (n : ℕ) (zs : List ℤ) → (first_result f (z +ℤ pos 1) n ≡ Some zs → IsResult f zs) → first_result f z (suc n) ≡ Some zs → (o : Option (List ℤ)) → f z ≡ o → IsResult f zs
result-go f z n zs more e (Some q) h =
    record { at = z; found = h ∙ (sym (ap (λ o. first_found o (first_result f (z +ℤ pos 1) n)) h) ∙ (sym (first-more f z n) ∙ e)) }
result-go f z n zs more e None h = more (sym (ap (λ o. first_found o (first_result f (z +ℤ pos 1) n)) h) ∙ (sym (first-more f z n) ∙ e))

result-of : (f : ℤ → Option (List ℤ)) (z : ℤ) (n : ℕ) (zs : List ℤ) → first_result f z n ≡ Some zs → IsResult f zs
result-of f z zero zs e = absurd (nothing zs (sym (first-none f z) ∙ e))
result-of f z (suc n) zs e = result-go f z n zs (λ d. result-of f (z +ℤ pos 1) n zs d) e (f z) refl

add-one : (z : ℤ) (k : ℕ) → (z +ℤ pos 1) +ℤ pos k ≡ z +ℤ pos (suc k)
add-one z k = omega (arith, signed)

value-go : (f : ℤ → Option (List ℤ)) (z : ℤ) (n : ℕ) → HasValue (first_result f (z +ℤ pos 1) n) → (o : Option (List ℤ)) → f z ≡ o → HasValue (first_result f z (suc n))
value-go f z n more (Some q) h = record { value = q; found = first-more f z n ∙ ap (λ o. first_found o (first_result f (z +ℤ pos 1) n)) h }
value-go f z n more None h =
    record { value = more.value; found = first-more f z n ∙ (ap (λ o. first_found o (first_result f (z +ℤ pos 1) n)) h ∙ more.found) }

has-result : (f : ℤ → Option (List ℤ)) (z : ℤ) (n k : ℕ) (zs : List ℤ) → k < n → f (z +ℤ pos k) ≡ Some zs → HasValue (first_result f z n)
has-result f z zero k zs l e = absurd (omega (arith, l))
has-result f z (suc n) zero zs l e =
    record { value = zs; found = first-more f z n ∙ ap (λ o. first_found o (first_result f (z +ℤ pos 1) n)) (ap f (sym (+ℤ_idr z)) ∙ e) }
has-result f z (suc n) (suc k) zs l e = value-go f z n (has-result f (z +ℤ pos 1) n k zs (omega (arith, l)) (ap f (add-one z k) ∙ e)) (f z) refl

-- the integers that are tried, by their distance from the least
abbrev distance : ℤ → ℕ
distance (pos n) = n + 2 ^ 128
distance (negsuc n) = 2 ^ 128 - 1 - n

above : (b n : ℕ) → neg_ℤ (pos b) +ℤ pos (n + b) ≡ pos n
above b n = omega (arith, signed)

below : (b n : ℕ) → n < b → neg_ℤ (pos b) +ℤ pos (b - 1 - n) ≡ negsuc n
below b n h = omega (arith, signed)

distance-is : (z : ℤ) → mag z < 2 ^ 128 → neg_ℤ (pos (2 ^ 128)) +ℤ pos (distance z) ≡ z
distance-is (pos n) h = above (2 ^ 128) n
distance-is (negsuc n) h = below (2 ^ 128) n (omega (arith, h))

distance-less : (z : ℤ) → mag z < 2 ^ 128 → distance z < 2 ^ 129
distance-less (pos n) h = omega (arith, h)
distance-less (negsuc n) h = omega (arith, h)

pass-none : (p : List ℤ → Bool) (zs : List ℤ) (b : Bool) → p [] ≡ b → (if b then Some [] else None) ≡ Some zs → p zs ≡ true
pass-none p zs true h e = subst (λ ys. p ys ≡ true) (same_Some _ _ e) h
pass-none p zs false h e = absurd (nothing zs e)

pass-more : (p : List ℤ → Bool) (z : ℤ) (zs : List ℤ) (k : ℕ) → ((ys : List ℤ) → numbers_that k (λ xs. p (z ∷ xs)) ≡ Some ys → p (z ∷ ys) ≡ true) → (o : Option (List ℤ)) → numbers_that k (λ xs. p (z ∷ xs)) ≡ o → option_map (λ ys. z ∷ ys) o ≡ Some zs → p zs ≡ true
pass-more p z zs k more (Some ys) h e = subst (λ xs. p xs ≡ true) (same_Some _ _ e) (more ys h)
pass-more p z zs k more None h e = absurd (nothing zs e)

pub numbers-pass : (k : ℕ) (p : List ℤ → Bool) (zs : List ℤ) → numbers_that k p ≡ Some zs → p zs ≡ true
numbers-pass zero p zs e = pass-none p zs (p []) refl e
numbers-pass (suc k) p zs e =
    let r = result-of (λ z. option_map (λ ys. z ∷ ys) (numbers_that k (λ ys. p (z ∷ ys)))) (neg_ℤ (pos (2 ^ 128))) (2 ^ 129) zs e in
    pass-more p r.at zs k (λ ys h. numbers-pass k (λ xs. p (r.at ∷ xs)) ys h) (numbers_that k (λ ys. p (r.at ∷ ys))) refl r.found

pub has-numbers : (k : ℕ) (p : List ℤ → Bool) (zs : List ℤ) → length zs ≡ k → NumbersFitIn128Bits zs → p zs ≡ true → HasValue (numbers_that k p)
has-numbers zero p [] n h e = record { value = []; found = ap (λ b. if b then Some [] else None) e }
has-numbers zero p (z ∷ zs) n h e = absurd (omega (arith, n))
has-numbers (suc k) p [] n h e = absurd (omega (arith, n))
has-numbers (suc k) p (z ∷ zs) n h e =
    let f : ℤ → Option (List ℤ) = λ y. option_map (λ ys. y ∷ ys) (numbers_that k (λ ys. p (y ∷ ys))) in
    let rest = has-numbers k (λ ys. p (z ∷ ys)) zs (omega (arith, n)) h.1 e in
    has-result f (neg_ℤ (pos (2 ^ 128))) (2 ^ 129) (distance z) (z ∷ rest.value) (distance-less z h.0)
    (ap f (distance-is z h.0) ∙ ap (option_map (λ ys. z ∷ ys)) rest.found)

text-is : (o : Option (List ℕ)) (s : List ℕ) → has_text o s ≡ true → o ≡ Some s
text-is None s h = absurd (false≢true h)
text-is (Some text) s h = ap Some ((bytes_eq-Decides text s).0 h)

text-has : (o : Option (List ℕ)) (s : List ℕ) → o ≡ Some s → has_text o s ≡ true
text-has o s e = ap (λ x. has_text x s) e ∙ (bytes_eq-Decides s s).1 refl

pub found-text : (v : ValueFormat) (zs : List ℤ) (s : List ℕ) → numbers_of_text v s ≡ Some zs → text_of_numbers v zs ≡ Some s
unfolding numbers_of_text
found-text v zs s e = text-is (text_of_numbers v zs) s (numbers-pass (numbers_count v) (λ ys. has_text (text_of_numbers v ys) s) zs e)

pub text-back : (v : ValueFormat) (zs : List ℤ) (s : List ℕ) → NumbersFitIn128Bits zs → text_of_numbers v zs ≡ Some s → numbers_of_text v s ≡ Some zs
unfolding numbers_of_text
text-back v zs s h e =
    let p : List ℤ → Bool = λ ys. has_text (text_of_numbers v ys) s in
    let found = has-numbers (numbers_count v) p zs (count-told v zs s e) h (text-has (text_of_numbers v zs) s e) in
    let told = text-is (text_of_numbers v found.value) s (numbers-pass (numbers_count v) p found.value found.found) in
    found.found ∙ ap Some (one-text v found.value zs s told e)
