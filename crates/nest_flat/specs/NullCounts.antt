-- The number of 0 bits of a validity is the number of nulls.
use Rattle.std.specs.Prelude.{Bool, true, not, cond, get_or, Some, None}
use Rattle.std.specs.List.{count_by, range_with_len}
use Rattle.std.proofs.Common.{◌≡◌, ℕ, zero, suc, ◌+◌, ◌<◌, List, [], ◌∷◌, length, refl, ap, sym, ◌∙◌, arith}
use Rattle.std.proofs.lemmas.List.Sums.{sum_by-cons}
use Rattle.nest_model.specs.Part.{Validity, valid_at}
use Rattle.nest_model.specs.Fits.{ValidityFits}
use Rattle.nest_flat.specs.FlatParts.{unset_count}

count-bits : (bits : List Bool) (o : ℕ) (f : ℕ → Bool) → ((i : ℕ) → i < length bits → f (o + i) ≡ get_or bits i true)
    → count_by not bits ≡ count_by (λ i. not (f i)) (range_with_len o (length bits))
count-bits [] o f h = refl
count-bits (b ∷ bits) o f h =
    let here : f o ≡ b = ap f (let e : o ≡ o + 0 = omega arith in e) ∙ h 0 (omega arith) in
    let rest = count-bits bits (o + 1) f (λ i k. ap f (let e : o + 1 + i ≡ o + suc i = omega arith in e) ∙ h (suc i) (omega arith)) in
    sum_by-cons (λ x. cond (not x) 1 0) b bits
    ∙ ap (λ z. cond (not z) 1 0 + count_by not bits) (sym here)
    ∙ ap (λ n. cond (not (f o)) 1 0 + n) rest
    ∙ sym (sum_by-cons (λ i. cond (not (f i)) 1 0) o (range_with_len (o + 1) (length bits)))

count-none : (n o : ℕ) → 0 ≡ count_by (λ (i : ℕ). not true) (range_with_len o n)
count-none zero o = refl
count-none (suc n) o = omega (arith, count-none n (o + 1), sum_by-cons (λ (i : ℕ). cond (not true) 1 0) o (range_with_len (o + 1) n))

pub unset-nulls : (va : Validity) (n : ℕ) → ValidityFits va n → unset_count va ≡ count_by (λ i. not (valid_at va i)) (range_with_len 0 n)
unset-nulls None n h = count-none n 0
unset-nulls (Some bits) n h =
    count-bits bits 0 (λ i. get_or bits i true) (λ i k. ap (λ j. get_or bits j true) (let e : 0 + i ≡ i = omega arith in e))
    ∙ ap (λ m. count_by (λ i. not (get_or bits i true)) (range_with_len 0 m)) h
