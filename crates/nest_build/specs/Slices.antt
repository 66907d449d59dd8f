-- Rows of values as items of a list builder.
use Rattle.std.specs.Prelude.{ℕ, List, length, map, Option, Some, None}
use Rattle.nest_model.specs.BuilderItem as items
use Rattle.nest_model.specs.BuilderItem.{Item, PlainValue, seal_items}
use Rattle.nest_model.specs.BuilderInput.{value_item}

-- null, or the list of the values
abbrev pub row_item : {A : Type 0} → (A → PlainValue) → Option (List (Option A)) → Item
row_item value None = items.null
row_item value (Some xs) = items.list_of (seal_items (map (value_item value) xs))

-- the number of values of a row
abbrev pub row_len : {A : Type 0} → Option (List A) → ℕ
row_len None = 0
row_len (Some xs) = length xs
