-- The slots of items and rows.
use Rattle.std.specs.Prelude.{List, [], ◌∷◌, map, Option, Some, None, ℤ}
use Rattle.std.specs.Option.{option_copied}
use Rattle.std.specs.Borrow.{Bor}
use Rattle.nest_flat.specs.FlatParts.{optional}
use Rattle.nest_model.specs.Slot as slots
use Rattle.nest_model.specs.Slot.{Slot, seal}

-- null or an integer
abbrev pub item_slot : Option ℤ → Slot
item_slot x = optional (λ z. slots.number (z ∷ [])) x

-- null or the list of the items
abbrev pub optional_row_slot : Option (List (Option ℤ)) → Slot
optional_row_slot None = slots.null
optional_row_slot (Some xs) = slots.list (seal (map item_slot xs))

-- the slot of a borrowed row
abbrev pub slot_of_row : Option (Bor (List (Option ℤ))) → Slot
slot_of_row row = optional_row_slot (option_copied row)
