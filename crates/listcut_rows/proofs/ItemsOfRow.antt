-- The number of items of a row, and its slot in a builder.
use Rattle.std.proofs.Common.{◌≡◌, List, [], ◌∷◌, length, map, Option, Some, None, refl, sym, ap, ◌∙◌, ℤ}
use Rattle.std.specs.Option.{option_copied}
use Rattle.std.specs.Borrow.{Bor}
use Rattle.std.proofs.lemmas.List.{length-map}
use Rattle.nest_memory.specs.declared.datatypes.physical_type.PrimitiveType.TheVariants as primitives
use Rattle.nest_model.specs.BuilderAppendLaws.{slots-sealed}
use Rattle.nest_model.specs.BuilderItem as items
use Rattle.nest_model.specs.BuilderItem.{PlainValue, slot_of_item}
use Rattle.nest_model.specs.BuilderInput.{value_item}
use Rattle.nest_model.specs.Slot as slots
use Rattle.nest_model.specs.Slot.{seal}
use Rattle.nest_build.specs.Slices.{row_item, row_len as len_of_row}
use Rattle.listcut_rows.specs.Rows.{list_row_len}
use Rattle.listcut_rows.specs.RowSlots.{item_slot, optional_row_slot, slot_of_row}
use Rattle.listcut_rows.proofs.Sealed.{unseal-seal}

pub items-len : (row : Option (Bor (List (Option ℤ)))) → len_of_row (option_copied row) ≡ list_row_len (slot_of_row row)
items-len None = refl
items-len (Some items) = sym (ap length (unseal-seal (map item_slot items.now)) ∙ length-map items.now item_slot)

-- a 64-bit integer as a builder's value
abbrev pub int64_value : ℤ → PlainValue
int64_value z = items.native primitives.Int64 (z ∷ [])

item-slots : (xs : List (Option ℤ)) → map slot_of_item (map (value_item int64_value) xs) ≡ map item_slot xs
item-slots [] = refl
item-slots (None ∷ xs) = let t = item-slots xs in λ i. slots.null ∷ t i
item-slots (Some z ∷ xs) = let t = item-slots xs in λ i. slots.number (z ∷ []) ∷ t i

pub row-slot : (r : Option (List (Option ℤ))) → slot_of_item (row_item int64_value r) ≡ optional_row_slot r
row-slot None = refl
row-slot (Some xs) = ap slots.list (slots-sealed (map (value_item int64_value) xs) ∙ ap seal (item-slots xs))
