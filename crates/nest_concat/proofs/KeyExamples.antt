-- The keys of the worked examples.
use Rattle.std.specs.Prelude.{[], ◌∷◌, length}
use Rattle.std.proofs.Common.{◌≡◌, ℕ, zero, suc, ◌+◌, ◌≤◌, Bool, true, false, inl, inr, refl, ap, arith}
use Rattle.std.proofs.lemmas.List.Elements.{All-nil, All-cons}
use Rattle.nest_memory.specs.TypeTree as types
use Rattle.nest_model.specs.Accessors.{child_of}
use Rattle.nest_model.specs.Layout as layouts
use Rattle.nest_model.specs.Reads.{slots-length}
use Rattle.nest_model.specs.SameArray.{IsSameArray}
use Rattle.nest_array.specs.WindowParts.{WindowParts}
use Rattle.nest_concat.specs.Joined.{whole}
use Rattle.nest_concat.specs.KeyedExamples.{one_key}
use Rattle.nest_concat.specs.Limits.{PassesLimits}
use Rattle.nest_concat.specs.Lookups.{HaveValues, KeyPasses, KeysPass}
use Rattle.nest_concat.proofs.Windows.{nowhere}

-- its one key does not fit only if it is valid and too large
one-passes : (valid : Bool) (k n m s : ℕ) → KeyPasses m s (whole (one_key valid k n)) → (valid ≡ true) × (m ≤ s + k)
one-passes valid k n m s (zero, (l, (v, p))) = (v, p)
one-passes valid k n m s (suc j, (l, r)) = absurd (omega (arith, l))

pub last-fits : KeysPass 128 0 (whole (one_key true 0 127) ∷ whole (one_key true 0 1) ∷ []) → ⊥
last-fits (inl p) = let r = (one-passes true 0 127 128 0 p).1 in absurd (omega (arith, r))
last-fits (inr (inl p)) = let r = (one-passes true 0 1 128 127 p).1 in absurd (omega (arith, r))
last-fits (inr (inr p)) = p

pub first-passes : KeysPass 128 0 (whole (one_key true 0 128) ∷ whole (one_key true 0 1) ∷ [])
first-passes = inr (inl (0, (omega arith, (refl, omega arith))))

pub null-fits : KeysPass 128 0 (whole (one_key true 0 128) ∷ whole (one_key false 0 1) ∷ []) → ⊥
null-fits (inl p) = let r = (one-passes true 0 128 128 0 p).1 in absurd (omega (arith, r))
null-fits (inr (inl p)) = let r = (one-passes false 0 1 128 128 p).0 in cc
null-fits (inr (inr p)) = p

others : HaveValues (layouts.null types.null 128) (whole (one_key true 0 128) ∷ whole (one_key true 0 1) ∷ []) → ⊥
others h =
    let a = slots-length (layouts.null types.null 1) in
    let b = slots-length (layouts.null types.null 128) in
    let e = ap length (h 1 nowhere (omega arith)).1 in
    absurd (omega (arith, a, b, e))

pub limit-passes : PassesLimits (one_key true 0 128) (whole (one_key true 0 128) ∷ whole (one_key true 0 1) ∷ [])
limit-passes = inr (others, inl first-passes)

same-values : HaveValues (layouts.null types.null 128) (whole (one_key true 127 128) ∷ whole (one_key true 127 128) ∷ [])
same-values =
    let w = whole (one_key true 127 128) in
    let P : WindowParts → Type 0 = λ x. IsSameArray (child_of x.array) (layouts.null types.null 128) in
    All-cons P w (w ∷ []) (refl, refl) (All-cons P w [] (refl, refl) (All-nil P))

pub equal-fits : PassesLimits (one_key true 127 128) (whole (one_key true 127 128) ∷ whole (one_key true 127 128) ∷ []) → ⊥
equal-fits (inl p) = absurd (omega (arith, p))
equal-fits (inr (n, p)) = n same-values
