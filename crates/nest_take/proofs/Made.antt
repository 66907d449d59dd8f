-- Results of constructors.
use Rattle.std.specs.Prelude.{◌⊎◌, IfOk, IfErr, IsErrOf, IsOkUnless, alloc_error}
use Rattle.std.proofs.Common.{◌≡◌, ◌<◌, ◌≤◌, ℕ, List, Result, Ok, Err, inl, inr, ap, sym, subst, arith}
use Rattle.nest_array.specs.declared.any.AnyArray.{AnyArray}
use Rattle.nest_array.specs.Seen.{layout_of}
use Rattle.nest_memory.specs.declared.error.Error.{Error}
use Rattle.nest_memory.specs.declared.error.Error.TheVariants.{Memory, Overflow}
use Rattle.nest_model.specs.Layout.{Layout}
use Rattle.nest_take.specs.Taken.{IsTaken, RefusesTake}

pub ok-taken : (r : Result AnyArray Error) (p a : Layout) (is : List ℕ) → IfOk r (λ b. layout_of b ≡ p) → IsTaken a is p → IfOk r (λ b. IsTaken a is (layout_of b))
ok-taken (Ok b) p a is h t = subst (IsTaken a is) (sym h) t
ok-taken (Err e) p a is h t = tt

pub err-memory : (r : Result AnyArray Error) (a : Layout) (is : List ℕ) → IsOkUnless r (Memory alloc_error) → IfErr r (λ e. RefusesTake e a is)
err-memory (Ok b) a is h = tt
err-memory (Err e) a is h = inl h

-- where no number overflows, the error is a failed allocation
pub only-memory : {T : Type 0} (e : Error) (m n : ℕ) → (IsErrOf {T = T} {E = Error} (Err e) Overflow → m < n) → n ≤ m → (e ≡ Overflow) ⊎ (e ≡ Memory alloc_error) → e ≡ Memory alloc_error
only-memory e m n past fits h = elim h [
  | inl o ↦ absurd (omega (arith, past (ap Err o), fits))
  | inr e ↦ e
]
