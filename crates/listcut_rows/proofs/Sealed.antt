-- The slots of a list slot.
use Rattle.std.proofs.Common.{◌≡◌, List, [], ◌∷◌, refl, ap}
use Rattle.nest_model.specs.Slot.{Slot, Slots, no_slots, more_slots, seal, unseal}

pub unseal-seal : (xs : List Slot) → unseal (seal xs) ≡ xs
unseal-seal [] = refl
unseal-seal (x ∷ xs) = ap (λ ys. x ∷ ys) (unseal-seal xs)

pub seal-unseal : (xs : Slots) → seal (unseal xs) ≡ xs
seal-unseal no_slots = refl
seal-unseal (more_slots x xs) = ap (more_slots x) (seal-unseal xs)
