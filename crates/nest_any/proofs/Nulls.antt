-- An appended null in the terms of the `MutableArray` contract.
use Rattle.std.specs.Prelude.{◌⊎◌, Some, alloc_error}
use Rattle.std.proofs.Common.{◌≡◌, ℕ, zero, suc, ◌+◌, ◌<◌, true, false, sym, ap, ◌∙◌, inl, inr, arith}
use Rattle.nest_memory.specs.declared.error.Error.{Error}
use Rattle.nest_memory.specs.declared.error.Error.TheVariants.{Memory, Overflow}
use Rattle.nest_model.specs.BuilderTree.{BuilderTree}
use Rattle.nest_model.specs.BuilderItem as items
use Rattle.nest_model.specs.BuilderComplete.{IsComplete}
use Rattle.nest_model.specs.BuilderAppend.{Accepted, nulls_appended}
use Rattle.nest_model.specs.BuilderAppendLaws.{nulls-zero, nulls-more}
use Rattle.nest_model.specs.BuilderAcceptLaws.{accepted-null}
use Rattle.nest_model.specs.BuilderRefusals.{nulls_pass, item_refusal}
use Rattle.nest_model.specs.BuilderRefusalLaws.{null_past, null_passes, nulls-more_fit, nulls-then_pass}

pub null_accepted : (t u : BuilderTree) → IsComplete t → u ≡ nulls_appended 1 t → Accepted items.null t u
null_accepted t u w e = rw e (accepted-null t w)

-- the cause of a refused null, in either form
pub null_cause : (t : BuilderTree) (e : Error) → (e ≡ Memory alloc_error) ⊎ ((e ≡ Overflow) × (nulls_pass 1 t ≡ true)) → (e ≡ Memory alloc_error) ⊎ (item_refusal items.null t ≡ Some e)
null_cause t e (inl m) = inl m
null_cause t e (inr p) = inr (null_past t p.1 ∙ ap Some (sym p.0))

pub cause_of_null : (t : BuilderTree) (e : Error) → (e ≡ Memory alloc_error) ⊎ (item_refusal items.null t ≡ Some e) → (e ≡ Memory alloc_error) ⊎ ((e ≡ Overflow) × (nulls_pass 1 t ≡ true))
cause_of_null t e (inl m) = inl m
cause_of_null t e (inr k) = inr (null_passes t e k)

-- one more null after i of them
pub one_more : (t u v : BuilderTree) (i : ℕ) → u ≡ nulls_appended i t → v ≡ nulls_appended 1 u → v ≡ nulls_appended (i + 1) t
one_more t u v i e f = f ∙ ap (nulls_appended 1) e ∙ nulls-more t i 1

pub fits_more : (t u : BuilderTree) (i : ℕ) → u ≡ nulls_appended i t → (0 < i → nulls_pass i t ≡ false) → nulls_pass 1 u ≡ false → nulls_pass (i + 1) t ≡ false
fits_more t u zero e h k =
    let n : 0 + 1 ≡ 1 = omega arith in
    ap (λ m. nulls_pass m t) n ∙ ap (nulls_pass 1) (sym (nulls-zero t) ∙ sym e) ∙ k
fits_more t u (suc i) e h k = nulls-more_fit t (suc i) (h (omega arith)) (ap (nulls_pass 1) (sym e) ∙ k)

pub refused_after : (t u : BuilderTree) (i n : ℕ) (e : Error) → i < n → u ≡ nulls_appended i t → (e ≡ Memory alloc_error) ⊎ ((e ≡ Overflow) × (nulls_pass 1 u ≡ true))
    → (e ≡ Memory alloc_error) ⊎ ((e ≡ Overflow) × (nulls_pass n t ≡ true) × (0 < n))
refused_after t u i n e l f (inl m) = inl m
refused_after t u i n e l f (inr p) = inr (p.0, nulls-then_pass t i n l (ap (nulls_pass 1) (sym f) ∙ p.1), omega arith)
