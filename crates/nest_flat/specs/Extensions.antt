-- Builders of flat arrays after an iterator's items are appended.
use Rattle.std.specs.Prelude.{ℕ, ℤ, List, Option, option_map}
use Rattle.std.specs.Borrow.{Bor}
use Rattle.std.specs.Option.{option_copied}
use Rattle.nest_model.specs.Layout.{Layout}
use Rattle.nest_model.specs.Slot as slots
use Rattle.nest_model.specs.Slot.{Slot}
use Rattle.nest_flat.specs.BytesGrowth.{pushed_item, item_refusal}
use Rattle.nest_flat.specs.FlatParts.{optional}
use Rattle.nest_flat.specs.Growth.{Extended, pushed_native, native_refusal}

-- the byte strings were appended in order and without error
abbrev pub BytesExtended : ℕ → (List ℕ → Slot) → List (Option (Bor (List ℕ))) → Layout → Layout → Type 0
BytesExtended largest value xs old new =
    Extended (λ a x. pushed_item a (option_copied x)) (λ a x. item_refusal largest a (option_copied x)) (λ x. optional value (option_copied x)) xs old new

-- the native values were appended in order and without error
abbrev pub NativesExtended : {T : Type 0} → (T → List ℤ) → List (Option T) → Layout → Layout → Type 0
NativesExtended numbers xs old new =
    Extended (λ a x. pushed_native a (option_map numbers x)) native_refusal (optional (λ x. slots.number (numbers x))) xs old new
