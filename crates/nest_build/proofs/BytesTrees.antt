-- Binary and UTF-8 builders as trees of one level: their bytes end at the largest offset or before it.
use Rattle.std.specs.Prelude.{◌⊎◌, ◌↔◌, ◌≢◌, ◌||◌, Option, Some, None, IsTrue, Result, OnOk, option_map, alloc_error, not, ltb}
use Rattle.std.proofs.Common.{◌≡◌, ℕ, suc, ◌+◌, ◌*◌, ◌<◌, ◌≤◌, Bool, true, false, List, [], ◌∷◌, ◌++◌, length, refl, sym, ap, subst, ◌∙◌, inl, inr, arith}
use Rattle.std.proofs.lemmas.Bool.{le-leb}
use Rattle.std.proofs.lemmas.Bool.Decides.{leb_tells}
use Rattle.nest_memory.specs.Physical.{physical_type, binary_of_width, utf8_of_width}
use Rattle.nest_memory.specs.Rising.{last_of, largest_offset}
use Rattle.nest_memory.specs.TypeTree.{size_of}
use Rattle.nest_memory.specs.declared.datatypes.physical_type.PhysicalType.{PhysicalType}
use Rattle.nest_memory.specs.declared.error.Error.{Error}
use Rattle.nest_memory.specs.declared.error.Error.TheVariants.{Memory, InvalidArgumentError, Overflow}
use Rattle.nest_memory.specs.declared.error.ArgumentError.TheVariants.{ItemType}
use Rattle.nest_flat.specs.BytesGrowth.{item_bytes}
use Rattle.nest_flat.specs.FlatParts.{optional}
use Rattle.nest_flat.specs.NullSlots.{NullsByValidity}
use Rattle.nest_model.specs.Accessors.{validity_of, offsets_of, bytes_of}
use Rattle.nest_model.specs.Array.{TopFits}
use Rattle.nest_model.specs.Checks.{largest_length, is_past, Pass, FailFirst}
use Rattle.nest_model.specs.FactLaws.{binary-facts, text-facts}
use Rattle.nest_model.specs.Layout.{Layout, binary, utf8, layout_type}
use Rattle.nest_model.specs.Meaning.{len, slot, slots_of, where_valid}
use Rattle.nest_model.specs.Part.{valid_at}
use Rattle.nest_model.specs.Slot as slots
use Rattle.nest_model.specs.Slot.{Slot}
use Rattle.nest_model.specs.BuilderAppend.{Accepted}
use Rattle.nest_model.specs.BuilderAppendLaws.{flat_accepted, flat_null_accepted}
use Rattle.nest_model.specs.BuilderItem as items
use Rattle.nest_model.specs.BuilderItem.{PlainValue, Holds, byte_count, bytes_held, holds_kind, slot_of_plain}
use Rattle.nest_model.specs.BuilderRefusalLaws.{below, within}
use Rattle.nest_model.specs.BuilderRefusals.{required_item, requirement_refusal, bytes_pass, has_other_size}
use Rattle.nest_model.specs.BuilderJoin.{join_checks, join_passes}
use Rattle.nest_build.specs.FlatTree.{flat_tree}
use Rattle.nest_build.proofs.FlatTrees.{value-holds}

-- values of a physical type whose bytes end at the largest offset of a width or before it
pub record IsBounded (large : Bool) (p : PhysicalType) (wrap : List ℕ → PlainValue) : Type 0 where
  pub passes : (fixed n : ℕ) → bytes_pass p fixed n ≡ ltb (largest_offset large) n
  pub unsized : (size n : ℕ) → has_other_size p size n ≡ false
  pub taken : (xs : List ℕ) → holds_kind p (wrap xs) ≡ true
  pub weighed : (xs : List ℕ) → byte_count (slot_of_plain (wrap xs)) ≡ length xs

pub binary-bounded : (large : Bool) → IsBounded large (binary_of_width large) items.bytes
binary-bounded true = record { passes = λ f n. refl; unsized = λ s n. refl; taken = λ xs. refl; weighed = λ xs. refl }
binary-bounded false = record { passes = λ f n. refl; unsized = λ s n. refl; taken = λ xs. refl; weighed = λ xs. refl }

pub text-bounded : (large : Bool) → IsBounded large (utf8_of_width large) items.utf8
text-bounded true = record { passes = λ f n. refl; unsized = λ s n. refl; taken = λ xs. refl; weighed = λ xs. refl }
text-bounded false = record { passes = λ f n. refl; unsized = λ s n. refl; taken = λ xs. refl; weighed = λ xs. refl }

pub binary-typed : (large : Bool) (a : Layout) → TopFits a → a ≡ binary large (layout_type a) (offsets_of a) (bytes_of a) (validity_of a) → IsBounded large (physical_type (layout_type a)) items.bytes
binary-typed large a f e =
    let x = binary-facts large (layout_type a) (offsets_of a) (bytes_of a) (validity_of a) (subst TopFits e f) in
    subst (λ p. IsBounded large p items.bytes) (sym x.typed) (binary-bounded large)

pub text-typed : (large : Bool) (a : Layout) → TopFits a → a ≡ utf8 large (layout_type a) (offsets_of a) (bytes_of a) (validity_of a) → IsBounded large (physical_type (layout_type a)) items.utf8
text-typed large a f e =
    let x = text-facts large (layout_type a) (offsets_of a) (bytes_of a) (validity_of a) (subst TopFits e f) in
    subst (λ p. IsBounded large p items.utf8) (sym x.typed) (text-bounded large)

pub binary-nulls : (large : Bool) (a : Layout) → a ≡ binary large (layout_type a) (offsets_of a) (bytes_of a) (validity_of a) → NullsByValidity a
binary-nulls large a e = subst NullsByValidity (sym e) tt

pub text-nulls : (large : Bool) (a : Layout) → a ≡ utf8 large (layout_type a) (offsets_of a) (bytes_of a) (validity_of a) → NullsByValidity a
text-nulls large a e = subst NullsByValidity (sym e) tt

-- arithmetic
pub at-most : (m n : ℕ) → (n < m → ⊥) → m ≤ n
at-most m n h = elim (leb_tells m n) as (λ _. m ≤ n) [ inl e ↦ e.1 | inr e ↦ absurd (h (omega (arith, e.1))) ]

or-true : (b : Bool) → (b || true) ≡ true
or-true true = refl
or-true false = refl

pub wrapped-accepted : (wrap : List ℕ → PlainValue) (a b : Layout) (x : Option (List ℕ)) → layout_type b ≡ layout_type a → slots_of b ≡ slots_of a ++ optional (λ y. slot_of_plain (wrap y)) x ∷ []
    → Accepted (required_item (option_map wrap x)) (flat_tree a) (flat_tree b)
wrapped-accepted wrap a b None t s = rw t (flat_null_accepted (layout_type a) (slots_of a) (slots_of b) s)
wrapped-accepted wrap a b (Some y) t s = rw t (flat_accepted (layout_type a) (slots_of a) (slots_of b) (wrap y) s)

-- a builder whose slots have the bytes up to its last offset
module _ (large : Bool) (largest : ℕ) (wrap : List ℕ → PlainValue) (a : Layout) (e : largest ≡ largest_offset large) (k : IsBounded large (physical_type (layout_type a)) wrap)
    (held : bytes_held (slots_of a) ≡ last_of (offsets_of a)) (room : last_of (offsets_of a) ≤ largest) where
  pub bounded-fits : (x : Option (List ℕ)) → length (slots_of a) + 1 ≤ largest_length → last_of (offsets_of a) + length (item_bytes x) ≤ largest → requirement_refusal (option_map wrap x) (flat_tree a) ≡ None
  bounded-fits None l m =
      let p = k.passes ((length (slots_of a) + 1) * size_of (layout_type a)) 0 in
      rw (within (length (slots_of a) + 1) l, p, below (suc (largest_offset large)) 0 (omega arith)) refl
  bounded-fits (Some y) l m =
      let n = last_of (offsets_of a) + length y in
      let p = k.passes ((length (slots_of a) + 1) * size_of (layout_type a)) n in
      rw (k.taken y, k.unsized (size_of (layout_type a)) (byte_count (slot_of_plain (wrap y))), within (length (slots_of a) + 1) l, held, k.weighed y, p, below (suc (largest_offset large)) n (omega (arith, m, e))) refl

  bounded-past : (x : Option (List ℕ)) → largest < last_of (offsets_of a) + length (item_bytes x) → requirement_refusal (option_map wrap x) (flat_tree a) ≡ Some Overflow
  bounded-past None h = absurd (omega (arith, h, room))
  bounded-past (Some y) h =
      let n = last_of (offsets_of a) + length y in
      let p = k.passes ((length (slots_of a) + 1) * size_of (layout_type a)) n in
      rw (k.taken y, k.unsized (size_of (layout_type a)) (byte_count (slot_of_plain (wrap y))), held, k.weighed y, p, le-leb (suc (largest_offset large)) n (omega (arith, h, e)), or-true (is_past (length (slots_of a) + 1))) refl

  pub bounded-refused : (x : Option (List ℕ)) (error : Error) → (error ≡ Overflow) ⊎ (error ≡ Memory alloc_error) → (error ≡ Overflow → largest < last_of (offsets_of a) + length (item_bytes x))
      → (error ≡ Memory alloc_error) ⊎ ((error ≡ Overflow) × (requirement_refusal (option_map wrap x) (flat_tree a) ≡ Some error))
  bounded-refused x error (inl o) h = inr (o, bounded-past x (h o) ∙ ap Some (sym o))
  bounded-refused x error (inr m) h = inl m

  -- the slots of another builder
  module _ (b : Layout) (more : bytes_held (slots_of b) ≡ last_of (offsets_of b)) where
    pub bounded-joins : layout_type a ≡ layout_type b → length (slots_of a) + length (slots_of b) ≤ largest_length → last_of (offsets_of a) + last_of (offsets_of b) ≤ largest → Pass (join_checks (flat_tree a) (flat_tree b))
    bounded-joins t l m =
        let n = last_of (offsets_of a) + last_of (offsets_of b) in
        let p = k.passes ((length (slots_of a) + length (slots_of b)) * size_of (layout_type a)) n in
        (t, (rw (within (length (slots_of a) + length (slots_of b)) l, held, more, p, below (suc (largest_offset large)) n (omega (arith, m, e))) refl, tt))

    join-past : largest < last_of (offsets_of a) + last_of (offsets_of b) → join_passes (flat_tree a) (flat_tree b) ≡ false → ⊥
    join-past h f =
        let n = last_of (offsets_of a) + last_of (offsets_of b) in
        let p = k.passes ((length (slots_of a) + length (slots_of b)) * size_of (layout_type a)) n in
        let q : join_passes (flat_tree a) (flat_tree b) ≡ true = rw (held, more, p, le-leb (suc (largest_offset large)) n (omega (arith, h, e)), or-true (is_past (length (slots_of a) + length (slots_of b)))) refl in
        cc

    pub bounded-join_refused : (error : Error) → (error ≡ InvalidArgumentError ItemType) ⊎ ((error ≡ Overflow) ⊎ (error ≡ Memory alloc_error)) → (error ≡ InvalidArgumentError ItemType → layout_type a ≢ layout_type b)
        → (error ≡ Overflow → (layout_type a ≡ layout_type b) × (largest < last_of (offsets_of a) + last_of (offsets_of b))) → (error ≡ Memory alloc_error) ⊎ FailFirst error (join_checks (flat_tree a) (flat_tree b))
    bounded-join_refused error (inl i) p q = inr (subst (λ x. FailFirst x (join_checks (flat_tree a) (flat_tree b))) (sym i) (p i))
    bounded-join_refused error (inr (inl o)) p q =
        let h = q o in
        inr (subst (λ x. FailFirst x (join_checks (flat_tree a) (flat_tree b))) (sym o) (h.0, join-past h.1))
    bounded-join_refused error (inr (inr m)) p q = inl m

-- whether a slot is a value
same-bytes : (r : Bool) (xs ys : List ℕ) → (IsTrue r ↔ (xs ≡ ys)) → IsTrue r ↔ (slots.bytes xs ≡ slots.bytes ys)
same-bytes r xs ys k = (λ h. ap slots.bytes (k.0 h), λ e. k.1 (let q : xs ≡ ys = cc in q))

same-text : (r : Bool) (xs ys : List ℕ) → (IsTrue r ↔ (xs ≡ ys)) → IsTrue r ↔ (slots.utf8 xs ≡ slots.utf8 ys)
same-text r xs ys k = (λ h. ap slots.utf8 (k.0 h), λ e. k.1 (let q : xs ≡ ys = cc in q))

pub bytes-hold : (large : Bool) (a : Layout) (i : ℕ) (v : PlainValue) (xs ys : List ℕ) (r : Bool) → IsBounded large (physical_type (layout_type a)) items.bytes → i < len a → v ≡ items.bytes ys
    → valid_at (validity_of a) i ≡ true → slot a i ≡ where_valid (validity_of a) i (slots.bytes xs) → (IsTrue r ↔ (xs ≡ ys)) → IsTrue r ↔ Holds (flat_tree a) i v
bytes-hold large a i v xs ys r k l w h g n =
    subst (λ u. IsTrue r ↔ Holds (flat_tree a) i u) (sym w)
    (value-holds a i (items.bytes ys) (slots.bytes xs) r l (k.taken ys) (g ∙ rw h refl) (same-bytes r xs ys n))

pub text-holds : (large : Bool) (a : Layout) (i : ℕ) (v : PlainValue) (xs ys : List ℕ) (r : Bool) → IsBounded large (physical_type (layout_type a)) items.utf8 → i < len a → v ≡ items.utf8 ys
    → valid_at (validity_of a) i ≡ true → slot a i ≡ where_valid (validity_of a) i (slots.utf8 xs) → (IsTrue r ↔ (xs ≡ ys)) → IsTrue r ↔ Holds (flat_tree a) i v
text-holds large a i v xs ys r k l w h g n =
    subst (λ u. IsTrue r ↔ Holds (flat_tree a) i u) (sym w)
    (value-holds a i (items.utf8 ys) (slots.utf8 xs) r l (k.taken ys) (g ∙ rw h refl) (same-text r xs ys n))
