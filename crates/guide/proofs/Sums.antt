-- The sum of the slots that are numbers, one slot after another.
use Rattle.std.proofs.Common.{◌≡◌, ℕ, ℤ, pos, ◌+ℤ◌, ◌≤ℤ◌, ◌*◌, ◌^◌, List, [], ◌∷◌, length, FitsSigned, w64, ap, sym, ◌∙◌, arith}
use Rattle.std.proofs.Math.IntN.{+ℤ_assoc}
use Rattle.nest_model.specs.Slot as slots
use Rattle.nest_model.specs.Slot.{Slot}
use Rattle.guide.specs.Columns.{total}

pub total_next : (s z t : ℤ) (it rest : List Slot) → it ≡ slots.number (z ∷ []) ∷ rest → (s +ℤ total it) ≡ t → ((s +ℤ z) +ℤ total rest) ≡ t
total_next s z t it rest e h = +ℤ_assoc s z (total rest) ∙ ap (λ y. s +ℤ y) (sym (ap total e)) ∙ h

pub low_next : (s z : ℤ) (n : ℕ) (it rest : List Slot) (x : Slot) → it ≡ x ∷ rest → FitsSigned w64 z → pos (length it * 2 ^ 63) ≤ℤ (s +ℤ pos (n * 2 ^ 63)) → pos (length rest * 2 ^ 63) ≤ℤ ((s +ℤ z) +ℤ pos (n * 2 ^ 63))
low_next s z n it rest x e f h = let k = ap length e in grind (arith, k, f, h)

pub high_next : (s z : ℤ) (n : ℕ) (it rest : List Slot) (x : Slot) → it ≡ x ∷ rest → FitsSigned w64 z → (s +ℤ pos (length it * 2 ^ 63)) ≤ℤ pos (n * 2 ^ 63) → ((s +ℤ z) +ℤ pos (length rest * 2 ^ 63)) ≤ℤ pos (n * 2 ^ 63)
high_next s z n it rest x e f h = let k = ap length e in grind (arith, k, f, h)
