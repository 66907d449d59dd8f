-- Which rows of a list builder are null.
use Rattle.std.specs.Prelude.{◌≢◌, ◌↔◌, IsTrue, Some, None}
use Rattle.std.proofs.Common.{◌≡◌, ℕ, zero, suc, ◌+◌, ◌-◌, ◌<◌, Bool, true, false, List, [], ◌∷◌, length, get_or, refl, sym, ap, ◌∙◌, inr, arith}
use Rattle.nest_memory.specs.Sublist.{sublist}
use Rattle.nest_model.specs.Part.{Validity}
use Rattle.nest_model.specs.Slot as slots
use Rattle.nest_model.specs.Slot.{Slot, Slots, seal}
use Rattle.nest_model.specs.BuilderRow.{Row}
use Rattle.nest_model.specs.BuilderTree.{BuilderTree, builder_len}
use Rattle.nest_model.specs.BuilderLevels.{rows_of_items, rows_of_size, valid_or_null}
use Rattle.nest_model.specs.BuilderFreeze.{EncodesBits, row_bits}
use Rattle.nest_build.specs.Shown.{own_slot, ShowsNulls}

-- the slot of a row is null or a list
pub items-slot : (s i : ℕ) (rows : List Row) (xs : List Slot) → i < length rows → (y : Slots) × (get_or (rows_of_items s rows xs) i slots.null ≡ valid_or_null (get_or (row_bits rows) i true) (slots.list y))
items-slot s i [] xs l = absurd (omega arith)
items-slot s zero (r ∷ rows) xs l = (seal (sublist xs s (r.end - s)), refl)
items-slot s (suc i) (r ∷ rows) xs l = items-slot r.end i rows xs (omega arith)

pub size-slot : (s n i : ℕ) (bits : List Bool) (xs : List Slot) → i < length bits → (y : Slots) × (get_or (rows_of_size s n bits xs) i slots.null ≡ valid_or_null (get_or bits i true) (slots.list y))
size-slot s n i [] xs l = absurd (omega arith)
size-slot s n zero (b ∷ bits) xs l = (seal (sublist xs s n), refl)
size-slot s n (suc i) (b ∷ bits) xs l = size-slot (s + n) n i bits xs (omega arith)

-- the slot is null exactly if its bit is 0
known : (b : Bool) (s : Slot) (y : Slots) → s ≡ valid_or_null b (slots.list y) → (b ≡ false) ↔ (s ≡ slots.null)
known true s y e = (λ h. absurd cc, λ h. let u : slots.list y ≡ slots.null = sym e ∙ h in absurd cc)
known false s y e = (λ h. e, λ h. refl)

pub valid_or_not : (b r : Bool) (s : Slot) (y : Slots) → s ≡ valid_or_null b (slots.list y) → r ≡ b → IsTrue r ↔ (s ≢ slots.null)
valid_or_not true r s y e h = (λ t n. let u : slots.list y ≡ slots.null = sym e ∙ n in cc, λ n. h)
valid_or_not false r s y e h = (λ t. let u : true ≡ false = sym t ∙ h in absurd cc, λ n. absurd (n e))

-- each row is a list if its bit is 1, else null
abbrev pub AreLists : List Bool → BuilderTree → Type 0
AreLists bits t = (i : ℕ) → i < builder_len t → (y : Slots) × (own_slot t i ≡ valid_or_null (get_or bits i true) (slots.list y))

pub lists-tell : (va : Validity) (bits : List Bool) (t : BuilderTree) → EncodesBits va bits → length bits ≡ builder_len t → AreLists bits t → ShowsNulls va t
lists-tell None bits t s n h = inr (λ i l e.
    let y = h i l in
    let k = (known (get_or bits i true) (own_slot t i) y.0 y.1).1 e in
    let u : true ≡ false = sym (s i (omega (arith, l, n))) ∙ k in
    cc)
lists-tell (Some vs) bits t s n h = (
  ap length s ∙ n,
  λ i l.
      let y = h i l in
      let k = known (get_or bits i true) (own_slot t i) y.0 y.1 in
      let e = ap (λ bs. get_or bs i true) s in
      (λ z. k.0 (sym e ∙ z), λ z. e ∙ k.1 z),
)
