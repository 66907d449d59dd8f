-- Items of a list at given indices, and the indices that a mask selects. The definitions are this library's own.
use Rattle.std.specs.Prelude.{ℕ, suc, true, List, [], ◌∷◌, map, get_or, length, ◌≡◌, ◌<◌}
use Rattle.nest_model.specs.Slot as slots
use Rattle.nest_model.specs.Slot.{Slot}

-- The slots at these indices, in their order. An index out of bounds selects `Null`.
abbrev pub selected : List Slot → List ℕ → List Slot
selected ss is = map (λ i. get_or ss i slots.null) is

-- The indices, counted from k, whose slot is true.
abbrev pub indices_from : ℕ → List Slot → List ℕ
indices_from k [] = []
indices_from k (slots.boolean true ∷ ss) = k ∷ indices_from (suc k) ss
indices_from k (s ∷ ss) = indices_from (suc k) ss

-- The indices that a mask selects, in ascending order: those whose slot is true. A null selects nothing.
abbrev pub mask_indices : List Slot → List ℕ
mask_indices ss = indices_from 0 ss

-- The index is in bounds and its slot is true.
abbrev pub IsTrueAt : List Slot → ℕ → Type 0
IsTrueAt ss p = (p < length ss) × (get_or ss p slots.null ≡ slots.boolean true)
