-- Which rows of a struct builder are null.
use Rattle.std.specs.Prelude.{List as Seq, [], ◌∷◌, ◌≢◌, ◌↔◌, ◌⊎◌, ◌++◌, IsTrue, Some, None, alloc_error}
use Rattle.std.proofs.Common.{◌≡◌, ℕ, zero, suc, ◌+◌, ◌<◌, ◌≤◌, Bool, true, false, length, get_or, refl, sym, ap, subst, ◌∙◌, inl, inr, arith}
use Rattle.nest_memory.specs.TypeTree.{TypeTree}
use Rattle.nest_memory.specs.declared.error.Error.{Error}
use Rattle.nest_memory.specs.declared.error.Error.TheVariants.{Memory, Overflow}
use Rattle.nest_model.specs.Checks.{Pass, largest_length}
use Rattle.nest_model.specs.BuilderAddRow.{RowAdded, HasCompleteChildren, row_checks}
use Rattle.nest_model.specs.BuilderRowCheckLaws.{pass-ready}
use Rattle.nest_model.specs.BuilderAddRowLaws.{struct_row_added}
use Rattle.nest_model.specs.Part.{Validity}
use Rattle.nest_model.specs.Slot as slots
use Rattle.nest_model.specs.Slot.{Slot, Slots}
use Rattle.nest_model.specs.BuilderTree.{BuilderTree, BuilderTrees, struct}
use Rattle.nest_model.specs.BuilderLevels.{valid_or_null, record_at, rows_of_records, own_slots_each}
use Rattle.nest_model.specs.BuilderFreeze.{EncodesBits}
use Rattle.nest_build.specs.Shown.{own_slot, ShowsNulls}

-- a row is a struct or null, by its bit
row : (j i : ℕ) (bits : Seq Bool) (xss : Seq (Seq Slot)) → i < length bits → (s : Slots) × (get_or (rows_of_records j bits xss) i slots.null ≡ valid_or_null (get_or bits i true) (slots.record_of s))
row j i [] xss l = absurd (omega (arith, l))
row j zero (b ∷ bits) xss l = (record_at j xss, refl)
row j (suc i) (b ∷ bits) xss l = row (suc j) i bits xss (omega (arith, l))

null-or-not : (b : Bool) (s : Slot) (y : Slots) → s ≡ valid_or_null b (slots.record_of y) → (b ≡ false) ↔ (s ≡ slots.null)
null-or-not true s y e = (λ h. absurd cc, λ h. let u : slots.record_of y ≡ slots.null = sym e ∙ h in absurd cc)
null-or-not false s y e = (λ h. e, λ h. refl)

pub record-null : (t : TypeTree) (bits : Seq Bool) (cs : BuilderTrees) (i : ℕ) → i < length bits → (get_or bits i true ≡ false) ↔ (own_slot (struct t bits cs) i ≡ slots.null)
record-null t bits cs i l =
    let r = row 0 i bits (own_slots_each cs) l in
    null-or-not (get_or bits i true) (own_slot (struct t bits cs) i) r.0 r.1

by-bit : (r b : Bool) (N : Type 0) → (b ≡ false) ↔ N → r ≡ b → IsTrue r ↔ (N → ⊥)
by-bit r true N h e = (λ t n. let f : true ≡ false = h.1 n in absurd cc, λ f. e)
by-bit r false N h e = (λ t. absurd (let f : true ≡ false = sym t ∙ e in cc), λ f. absurd (f (h.0 refl)))

pub record-valid : (t : TypeTree) (bits : Seq Bool) (cs : BuilderTrees) (i : ℕ) (r : Bool) → i < length bits → r ≡ get_or bits i true → IsTrue r ↔ (own_slot (struct t bits cs) i ≢ slots.null)
record-valid t bits cs i r l e = by-bit r (get_or bits i true) (own_slot (struct t bits cs) i ≡ slots.null) (record-null t bits cs i l) e

pub records-push_row : (va : Validity) (t : TypeTree) (bits : Seq Bool) (cs : BuilderTrees) → EncodesBits va bits → ShowsNulls va (struct t bits cs)
records-push_row None t bits cs s = inr (λ i l e.
    let k = (record-null t bits cs i l).1 e in
    let u : true ≡ false = sym (s i l) ∙ k in
    cc)
records-push_row (Some vs) t bits cs s = (
  ap length s,
  λ i l.
      let k = record-null t bits cs i l in
      let e = ap (λ bs. get_or bs i true) s in
      (λ z. k.0 (sym e ∙ z), λ z. e ∙ k.1 z),
)

-- an added row
pub record-with_row : (valid : Bool) (t : TypeTree) (bits new : Seq Bool) (cs : BuilderTrees) (old : BuilderTree) → struct t bits cs ≡ old → HasCompleteChildren old → Pass (row_checks old) → new ≡ bits ++ valid ∷ [] → RowAdded valid old (struct t new cs)
record-with_row valid t bits new cs old v w p e =
    let q = subst (λ b. Pass (row_checks b)) (sym v) p in
    let h = subst HasCompleteChildren (sym v) w in
    subst (λ b. RowAdded valid b (struct t new cs)) v (struct_row_added valid t bits new cs e (pass-ready (struct t bits cs) h q).0)

pub memory-alone : (n : ℕ) (e : Error) → n + 1 ≤ largest_length → (e ≡ Memory alloc_error) ⊎ ((e ≡ Overflow) × (largest_length < n + 1)) → e ≡ Memory alloc_error
memory-alone n e l (inl m) = m
memory-alone n e l (inr p) = absurd (omega (arith, l, p.1))
