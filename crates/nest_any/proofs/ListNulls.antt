-- A null row of a list of any kind, over its nulls in the child.
use Rattle.std.specs.Prelude.{◌⊎◌, ◌||◌, alloc_error}
use Rattle.std.proofs.Common.{◌≡◌, ℕ, ◌+◌, ◌*◌, ◌<◌, ◌≤◌, Bool, true, false, length, refl, sym, ap, subst, ◌∙◌, inl, inr, arith}
use Rattle.std.proofs.Math.Nat.{add-mul}
use Rattle.nest_memory.specs.TypeTree.{size_of}
use Rattle.nest_memory.specs.declared.error.Error.{Error}
use Rattle.nest_memory.specs.declared.error.Error.TheVariants.{Memory, Overflow}
use Rattle.nest_model.specs.Checks.{largest_length, is_past}
use Rattle.nest_model.specs.BuilderTree.{BuilderTree, builder_len}
use Rattle.nest_model.specs.BuilderComplete.{IsComplete}
use Rattle.nest_model.specs.BuilderAppend.{nulls_appended}
use Rattle.nest_model.specs.BuilderAcceptLaws.{len-nulls}
use Rattle.nest_model.specs.BuilderRefusals.{nulls_pass}
use Rattle.nest_model.specs.BuilderRefusalLaws.{within}
use Rattle.nest_any.specs.declared.rows.TypedRows.{TypedRows}
use Rattle.nest_any.specs.declared.rows.TypedRows.TheVariants.{List, LargeList, FixedSizeList}
use Rattle.nest_any.specs.TypedRows.{lists_over, rows_len, child_nulls, HasSize}

or-true : (b : Bool) → (b || true) ≡ true
or-true true = refl
or-true false = refl

once : (n : ℕ) → 1 * n ≡ n
once n = omega arith

pub null-fits : (r : TypedRows) (c d : BuilderTree) (n : ℕ) → IsComplete (lists_over r c) → HasSize r → (0 < child_nulls r → nulls_pass (child_nulls r) c ≡ false) → d ≡ nulls_appended (child_nulls r) c → n ≡ builder_len d → n ≤ largest_length
    → rows_len r + 1 ≤ largest_length → nulls_pass 1 (lists_over r c) ≡ false
null-fits (List t rows) c d n w s p e l m k = within (length rows + 1) k
null-fits (LargeList t rows) c d n w s p e l m k = within (length rows + 1) k
null-fits (FixedSizeList t bits) c d n w s p e l m k =
    let long = len-nulls (size_of t) c in
    let same = ap builder_len e in
    let end : (length bits + 1) * size_of t ≤ largest_length = omega (arith, long, same, l, m, w.2, add-mul (length bits) 1 (size_of t)) in
    rw (within (length bits + 1) k, within ((length bits + 1) * size_of t) end, once (size_of t), p s) refl

-- the error of appending the child's nulls
pub child-refuses : (r : TypedRows) (c : BuilderTree) (e : Error) → (e ≡ Memory alloc_error) ⊎ ((e ≡ Overflow) × (nulls_pass (child_nulls r) c ≡ true) × (0 < child_nulls r))
    → (e ≡ Memory alloc_error) ⊎ ((e ≡ Overflow) × (nulls_pass 1 (lists_over r c) ≡ true))
child-refuses r c e (inl m) = inl m
child-refuses (List t rows) c e (inr p) = absurd (omega (arith, p.2))
child-refuses (LargeList t rows) c e (inr p) = absurd (omega (arith, p.2))
child-refuses (FixedSizeList t bits) c e (inr p) =
    let below : nulls_pass (1 * size_of t) c ≡ true = ap (λ n. nulls_pass n c) (once (size_of t)) ∙ p.1 in
    inr (p.0, ap (λ b. (is_past (length bits + 1) || is_past ((length bits + 1) * size_of t)) || b) below ∙ or-true (is_past (length bits + 1) || is_past ((length bits + 1) * size_of t)))

-- the same up to equations of the child and of the lists
pub child-refuses_at : (r : TypedRows) (c d s : BuilderTree) (n : ℕ) (e : Error) → lists_over r c ≡ s → n ≡ child_nulls r → d ≡ c → (e ≡ Memory alloc_error) ⊎ ((e ≡ Overflow) × (nulls_pass n d ≡ true) × (0 < n))
    → (e ≡ Memory alloc_error) ⊎ ((e ≡ Overflow) × (nulls_pass 1 s ≡ true))
child-refuses_at r c d s n e v q p (inl m) = inl m
child-refuses_at r c d s n e v q p (inr h) =
    subst (λ t. (e ≡ Memory alloc_error) ⊎ ((e ≡ Overflow) × (nulls_pass 1 t ≡ true))) v (child-refuses r c e (inr (h.0, ap (λ m. nulls_pass m c) (sym q) ∙ ap (nulls_pass n) (sym p) ∙ h.1, omega (arith, q, h.2))))
