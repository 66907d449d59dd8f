-- When a list builder refuses a row of numbers, and what an accepted row adds.
use Rattle.std.specs.Prelude.{Option, Some, None, ltb, ◌||◌}
use Rattle.std.proofs.Common.{◌≡◌, ℕ, ◌+◌, ◌<◌, ◌≤◌, Bool, false, true, List, [], ◌∷◌, ◌++◌, length, map, refl, ap, sym, ◌∙◌, inl, inr, arith, length-append}
use Rattle.std.proofs.lemmas.Bool.{cases_lt, lt-ltb, ltb-true}
use Rattle.nest_memory.specs.Physical.{physical_type}
use Rattle.nest_memory.specs.Rising.{largest_offset}
use Rattle.nest_memory.specs.TypeTree.{TypeTree}
use Rattle.nest_memory.specs.declared.datatypes.physical_type.PhysicalType.TheVariants as physical
use Rattle.nest_memory.specs.declared.datatypes.physical_type.PrimitiveType.{PrimitiveType}
use Rattle.nest_memory.specs.declared.error.Error.{Error}
use Rattle.nest_memory.specs.declared.error.Error.TheVariants.{Overflow}
use Rattle.nest_model.specs.BuilderAppend.{Accepted, appended, items_appended}
use Rattle.nest_model.specs.BuilderItem.{PlainValue, seal_items, holds_kind}
use Rattle.nest_model.specs.BuilderRefusals.{item_refusal, items_refusal}
use Rattle.nest_model.specs.BuilderRefusalLaws.{within}
use Rattle.nest_model.specs.BuilderRow.{Row}
use Rattle.nest_model.specs.BuilderInput.{value_item}
use Rattle.nest_model.specs.BuilderTree.{BuilderTree, flat, list, builder_len}
use Rattle.nest_model.specs.Checks.{first_of, refuse_if, is_past, largest_length}
use Rattle.nest_model.specs.Slot as slots
use Rattle.nest_model.specs.Slot.{Slot}
use Rattle.nest_build.specs.Children.{list_child}
use Rattle.nest_build.specs.Slices.{row_item, row_len}

past : (n : ℕ) → largest_length < n → is_past n ≡ true
past n h = lt-ltb largest_length n h

offsets-within : (large : Bool) → largest_offset large ≤ largest_length
offsets-within false = omega arith
offsets-within true = omega arith

module _ {A : Type 0} (value : A → PlainValue) (p : PrimitiveType) (kind : (x : A) → holds_kind (physical.Primitive p) (value x) ≡ true) (u : TypeTree) (is : physical_type u ≡ physical.Primitive p) where
  one_none : (ss : List Slot) (x : Option A) → length ss + 1 ≤ largest_length → item_refusal (value_item value x) (flat u ss) ≡ None
  one_none ss None l = rw (is, within (length ss + 1) l) refl
  one_none ss (Some z) l = rw (is, kind z, within (length ss + 1) l) refl

  one_past : (ss : List Slot) (x : Option A) → largest_length < length ss + 1 → item_refusal (value_item value x) (flat u ss) ≡ Some Overflow
  one_past ss None l = rw (is, past (length ss + 1) l) refl
  one_past ss (Some z) l = rw (is, kind z, past (length ss + 1) l) refl

  -- one more slot
  one_more : (ss : List Slot) (x : Option A) → (s : Slot) × (appended (value_item value x) (flat u ss) ≡ flat u (ss ++ s ∷ []))
  one_more ss None = (slots.null, refl)
  one_more ss (Some z) = (_, refl)

  all_more : (xs : List (Option A)) (ss : List Slot) → (more : List Slot) × (items_appended (seal_items (map (value_item value) xs)) (flat u ss) ≡ flat u more) × (length more ≡ length ss + length xs)
  all_more [] ss = (ss, refl, omega arith)
  all_more (x ∷ xs) ss =
      let one = one_more ss x in
      let rest = all_more xs (ss ++ one.0 ∷ []) in
      (rest.0, ap (items_appended (seal_items (map (value_item value) xs))) one.1 ∙ rest.1, omega (arith, rest.2, length-append ss (one.0 ∷ [])))

  all_none : (xs : List (Option A)) (ss : List Slot) → length ss + length xs ≤ largest_length → items_refusal (seal_items (map (value_item value) xs)) (flat u ss) ≡ None
  all_none [] ss l = refl
  all_none (x ∷ xs) ss l =
      let one = one_more ss x in
      ap (λ o. first_of o (items_refusal (seal_items (map (value_item value) xs)) (appended (value_item value x) (flat u ss)))) (one_none ss x (omega arith))
      ∙ ap (items_refusal (seal_items (map (value_item value) xs))) one.1
      ∙ all_none xs (ss ++ one.0 ∷ []) (omega (arith, length-append ss (one.0 ∷ [])))

  all_past : (xs : List (Option A)) (ss : List Slot) → length ss ≤ largest_length → largest_length < length ss + length xs → items_refusal (seal_items (map (value_item value) xs)) (flat u ss) ≡ Some Overflow
  all_past [] ss l h = absurd (omega arith)
  all_past (x ∷ xs) ss l h = elim (cases_lt (length ss) largest_length) [
    | inl lt ↦
        let one = one_more ss x in
        ap (λ o. first_of o (items_refusal (seal_items (map (value_item value) xs)) (appended (value_item value x) (flat u ss)))) (one_none ss x (omega arith))
        ∙ ap (items_refusal (seal_items (map (value_item value) xs))) one.1
        ∙ all_past xs (ss ++ one.0 ∷ []) (omega (arith, length-append ss (one.0 ∷ []))) (omega (arith, length-append ss (one.0 ∷ [])))
    | inr ge ↦ ap (λ o. first_of o (items_refusal (seal_items (map (value_item value) xs)) (appended (value_item value x) (flat u ss)))) (one_past ss x (omega arith))
  ]

  -- a row of numbers is refused exactly if the number of rows or of items exceeds its limit
  pub number_row_refusal : (large : Bool) (t : TypeTree) (rows : List Row) (ss : List Slot) (xs : List (Option A)) → length ss ≤ largest_length
      → item_refusal (row_item value (Some xs)) (list large t rows (flat u ss)) ≡ refuse_if (is_past (length rows + 1) || ltb (largest_offset large) (length ss + length xs)) Overflow None
  number_row_refusal large t rows ss xs l = elim (cases_lt largest_length (length ss + length xs)) [
    | inl lt ↦
        ap (λ o. first_of o (refuse_if (is_past (length rows + 1) || ltb (largest_offset large) (builder_len (items_appended (seal_items (map (value_item value) xs)) (flat u ss)))) Overflow None)) (all_past xs ss l lt)
        ∙ sym (ap (λ b. refuse_if b Overflow None) (or_true (is_past (length rows + 1)) _ (lt-ltb (largest_offset large) (length ss + length xs) (let w = offsets-within large in omega arith))))
    | inr le ↦
        let more = all_more xs ss in
        ap (λ o. first_of o (refuse_if (is_past (length rows + 1) || ltb (largest_offset large) (builder_len (items_appended (seal_items (map (value_item value) xs)) (flat u ss)))) Overflow None)) (all_none xs ss le)
        ∙ ap (λ n. refuse_if (is_past (length rows + 1) || ltb (largest_offset large) n) Overflow None) (ap builder_len more.1 ∙ more.2)
  ]
    where
      or_true : (a b : Bool) → b ≡ true → a || b ≡ true
      or_true false b h = h
      or_true true b h = refl

  -- an accepted row appends its values to the child
  pub number_row_items : (large : Bool) (t : TypeTree) (rows : List Row) (ss : List Slot) (r : Option (List (Option A))) (new : BuilderTree) → Accepted (row_item value r) (list large t rows (flat u ss)) new → builder_len (list_child new) ≡ length ss + row_len r
  number_row_items large t rows ss None new a = ap (λ t. builder_len (list_child t)) a.exact ∙ omega arith
  number_row_items large t rows ss (Some xs) new a = let more = all_more xs ss in ap (λ t. builder_len (list_child t)) a.exact ∙ ap builder_len more.1 ∙ more.2

  -- after an accepted row the number of items is at most the largest offset
  pub number_row_fits : (large : Bool) (t : TypeTree) (rows : List Row) (ss : List Slot) (r : Option (List (Option A))) → length ss ≤ largest_offset large → item_refusal (row_item value r) (list large t rows (flat u ss)) ≡ None → length ss + row_len r ≤ largest_offset large
  number_row_fits large t rows ss None l h = omega (arith, l)
  number_row_fits large t rows ss (Some xs) l h = elim (cases_lt (largest_offset large) (length ss + length xs)) [
    | inl lt ↦ absurd (none_past (is_past (length rows + 1)) _ (lt-ltb (largest_offset large) (length ss + length xs) lt) (sym (number_row_refusal large t rows ss xs (let w = offsets-within large in omega arith)) ∙ h))
    | inr le ↦ le
  ]
    where
      none_past : (a b : Bool) → b ≡ true → ◌≡◌ {A = Option Error} (refuse_if (a || b) Overflow None) None → ⊥
      none_past false b h e = elim b as (λ x. x ≡ true → ◌≡◌ {A = Option Error} (refuse_if x Overflow None) None → ⊥) [ true ↦ λ p q. cc | false ↦ λ p q. cc ] h e
      none_past true b h e = cc

  -- if the number of rows is within its limit, the only error is Overflow of the number of items
  pub number_row_past : (large : Bool) (t : TypeTree) (rows : List Row) (ss : List Slot) (r : Option (List (Option A))) (e : Error) → length rows + 1 ≤ largest_length → length ss ≤ largest_length
      → item_refusal (row_item value r) (list large t rows (flat u ss)) ≡ Some e → (e ≡ Overflow) × (largest_offset large < length ss + row_len r)
  number_row_past large t rows ss None e n l h = absurd (let k : ◌≡◌ {A = Option Error} None (Some e) = sym (ap (λ b. refuse_if b Overflow None) (within (length rows + 1) n)) ∙ h in cc)
  number_row_past large t rows ss (Some xs) e n l h =
      by_test (ltb (largest_offset large) (length ss + length xs)) refl
      (sym (ap (λ b. refuse_if (b || ltb (largest_offset large) (length ss + length xs)) Overflow None) (within (length rows + 1) n)) ∙ sym (number_row_refusal large t rows ss xs l) ∙ h)
    where
      by_test : (b : Bool) → ltb (largest_offset large) (length ss + length xs) ≡ b → refuse_if b Overflow None ≡ Some e → (e ≡ Overflow) × (largest_offset large < length ss + length xs)
      by_test true t k = (let p = k in cc, ltb-true (largest_offset large) (length ss + length xs) t)
      by_test false t k = absurd (let p = k in cc)
