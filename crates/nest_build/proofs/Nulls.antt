-- A sequence of pushed nulls.
use Rattle.std.specs.Prelude.{◌⊎◌, None, Some, alloc_error}
use Rattle.std.proofs.Common.{◌≡◌, ℕ, zero, suc, ◌+◌, ◌<◌, true, false, replicate, sym, ap, ◌∙◌, inl, inr, arith}
use Rattle.nest_memory.specs.declared.error.Error.{Error}
use Rattle.nest_memory.specs.declared.error.Error.TheVariants.{Memory, Overflow}
use Rattle.nest_model.specs.BuilderTree.{BuilderTree}
use Rattle.nest_model.specs.BuilderItem as items
use Rattle.nest_model.specs.BuilderAppend.{nulls_appended, AcceptedAll}
use Rattle.nest_model.specs.BuilderAppendLaws.{nulls-zero, nulls-all}
use Rattle.nest_model.specs.BuilderRefusals.{nulls_pass, item_refusal}
use Rattle.nest_model.specs.BuilderRefusalLaws.{nulls-more_fit, nulls-then_pass, null_passes, null_fits}

-- the nulls accepted so far, and one more
so_far : (t u : BuilderTree) (i : ℕ) → AcceptedAll (replicate i items.null) t u → u ≡ nulls_appended i t
so_far t u i a = a.exact ∙ nulls-all i t

pub null-fits_more : (t u : BuilderTree) (i : ℕ) → AcceptedAll (replicate i items.null) t u → (0 < i → nulls_pass i t ≡ false) → item_refusal items.null u ≡ None → nulls_pass (i + 1) t ≡ false
null-fits_more t u zero a h k =
    let e : 0 + 1 ≡ 1 = omega arith in
    ap (λ n. nulls_pass n t) e ∙ ap (nulls_pass 1) (sym (nulls-zero t) ∙ sym (so_far t u zero a)) ∙ null_fits u k
null-fits_more t u (suc i) a h k =
    nulls-more_fit t (suc i) (h (omega arith)) (ap (nulls_pass 1) (sym (so_far t u (suc i) a)) ∙ null_fits u k)

pub null-refused : (t u : BuilderTree) (i n : ℕ) (e : Error) → i < n → AcceptedAll (replicate i items.null) t u → (e ≡ Memory alloc_error) ⊎ (item_refusal items.null u ≡ Some e)
    → (e ≡ Memory alloc_error) ⊎ ((e ≡ Overflow) × (nulls_pass n t ≡ true))
null-refused t u i n e l a (inl m) = inl m
null-refused t u i n e l a (inr k) =
    let p = null_passes u e k in
    inr (p.0, nulls-then_pass t i n l (ap (nulls_pass 1) (sym (so_far t u i a)) ∙ p.1))
