-- The number of items of rows at indices.
use Rattle.std.proofs.Common.{◌≡◌, ℕ, suc, ◌+◌, ◌≤◌, ◌^◌, inl, inr, Bool, true, false, cond, ℤ, List, [], ◌∷◌, length, get_or, refl, sym, ap, ◌∙◌, subst, arith}
use Rattle.std.specs.Prelude.{IfErr, Result, Ok, Err, sum_by}
use Rattle.nest_memory.specs.declared.error.Error.{Error}
use Rattle.nest_memory.specs.declared.error.Error.TheVariants.{Overflow}
use Rattle.std.proofs.lemmas.List.Sums.{sum_by-cons}
use Rattle.nest_memory.specs.TypeTree.{TypeTree}
use Rattle.nest_memory.specs.declared.datatypes.physical_type.PrimitiveType.{PrimitiveType}
use Rattle.nest_model.specs.Selected.{selected}
use Rattle.nest_model.specs.Layout as layouts
use Rattle.nest_model.specs.Layout.{Layout, layout_type}
use Rattle.nest_model.specs.Accessors.{child_of, offsets_of, validity_of}
use Rattle.nest_model.specs.Meaning.{len, run, slot, slots_of}
use Rattle.nest_model.specs.Part.{Validity, begin, extent, valid_at}
use Rattle.nest_model.specs.Reads.{slot-place}
use Rattle.nest_model.specs.Runs.{length-run}
use Rattle.nest_model.specs.Slot as slots
use Rattle.nest_model.specs.Slot.{Slot, seal}
use Rattle.nest_take.specs.Limits.{PassesLimits}
use Rattle.nest_take.specs.Taken.{RefusesTake}
use Rattle.nest_take.specs.Indices.{AreBelow, count_at, item_indices}
use Rattle.listcut_rows.specs.Rows.{item_count, list_row_len}
use Rattle.listcut_rows.proofs.Sealed.{unseal-seal}

row-items : (valid : Bool) (items : List Slot) (n : ℕ) → length items ≡ n → list_row_len (cond valid (slots.list (seal items)) slots.null) ≡ cond valid n 0
row-items true items n e = ap length (unseal-seal items) ∙ e
row-items false items n e = refl

module _ (t : TypeTree) (os : List ℕ) (c : Layout) (va : Validity) where
  abbrev lists : Layout
  lists = layouts.list false t os c va

  row-count : (i : ℕ) → list_row_len (slot lists i) ≡ count_at os va i
  row-count i = row-items (valid_at va i) (run (slot c) (begin os i) (extent os i)) (extent os i) (length-run (slot c) (begin os i) (extent os i))

  items-selected : (is : List ℕ) → AreBelow is (len lists) → item_count (selected (slots_of lists) is) ≡ sum_by (count_at os va) is
  items-selected [] h = refl
  items-selected (i ∷ is) h =
      let s = get_or (slots_of lists) i slots.null in
      let here : list_row_len s ≡ count_at os va i = ap list_row_len (slot-place lists i slots.null (h 0 0 (omega arith))) ∙ row-count i in
      sum_by-cons list_row_len s (selected (slots_of lists) is)
      ∙ ap (λ n. n + item_count (selected (slots_of lists) is)) here
      ∙ ap (λ n. count_at os va i + n) (items-selected is (λ k d l. h (suc k) d (omega arith)))
      ∙ sym (sum_by-cons (count_at os va) i is)

-- rows of integers at indices exceed no limit but that of their items
pub passes-items : (a c : Layout) (p : PrimitiveType) (t : TypeTree) (vs : List (List ℤ)) (va : Validity) (is : List ℕ) → a ≡ layouts.list false (layout_type a) (offsets_of a) (child_of a) (validity_of a) → c ≡ child_of a → c ≡ layouts.primitive p t vs va
    → AreBelow is (len a) → PassesLimits a is → 2 ^ 31 ≤ item_count (selected (slots_of a) is)
passes-items a c p t vs va is k e f below passes =
    let rows = lists (layout_type a) (offsets_of a) (child_of a) (validity_of a) in
    let count = items-selected (layout_type a) (offsets_of a) (child_of a) (validity_of a) is (subst (λ z. AreBelow is (len z)) k below) in
    elim (subst (λ z. PassesLimits z is) k passes) [
      | inl many ↦ subst (λ z. 2 ^ 31 ≤ item_count (selected (slots_of z) is)) (sym k) (omega (arith, many, count))
      | inr items ↦ absurd (subst (λ z. PassesLimits z (item_indices (offsets_of a) (validity_of a) is)) (sym e ∙ f) items)
    ]

-- a take that overflows exceeds a limit
pub limits-passed : {A : Type 0} (taken : Result A Error) (e : Error) (a : Layout) (is : List ℕ) → taken ≡ Err e → e ≡ Overflow → IfErr taken (λ x. RefusesTake x a is) → PassesLimits a is
limits-passed (Ok x) e a is k f h = absurd cc
limits-passed (Err x) e a is k f (inl memory) = absurd cc
limits-passed (Err x) e a is k f (inr passes) = passes.1
