-- The slots of rows: null, or a list of nulls and integers.
use Rattle.std.specs.Prelude.{ℕ, ◌^◌, ◌<◌, List, [], ◌∷◌, length, sum_by, FitsSigned}
use Rattle.std.specs.Int.{w64}
use Rattle.std.specs.List.{AllByRecursion}
use Rattle.nest_model.specs.Slot as slots
use Rattle.nest_model.specs.Slot.{Slot, unseal}

-- the number of items of a row
abbrev pub list_row_len : Slot → ℕ
list_row_len (slots.list items) = length (unseal items)
list_row_len other = 0

-- the number of items of all rows
abbrev pub item_count : List Slot → ℕ
item_count rows = sum_by list_row_len rows

-- ---- the slots that are rows

abbrev pub IsItem : Slot → Type 0
IsItem slots.null = Unit {0}
IsItem (slots.number (number ∷ [])) = FitsSigned w64 number
IsItem other = ⊥

abbrev pub IsRow : Slot → Type 0
IsRow slots.null = Unit {0}
IsRow (slots.list items) = AllByRecursion IsItem (unseal items)
IsRow other = ⊥

-- each row is null or a list of nulls and 64-bit integers, and together they have fewer than 2^31 items
abbrev pub AreRows : List Slot → Type 0
AreRows rows = AllByRecursion IsRow rows × (item_count rows < 2 ^ 31)
