-- The text of rows.
use Rattle.std.specs.Prelude.{◌≡◌, ◌⊎◌, List, [], ◌∷◌, ◌++◌, map, flat_map, ℕ, codes, ◌+◌, ◌≤◌, ◌^◌, length}
use Rattle.std.specs.List.{join_with_byte}
use Rattle.std.specs.Fmt.{signed_decimal}
use Rattle.nest_model.specs.Slot as slots
use Rattle.nest_model.specs.Slot.{Slot, unseal}
use Rattle.listcut_rows.specs.Rows.{list_row_len, item_count, IsRow, AreRows}

-- `null` or an integer; other slots are no items
abbrev pub item_text : Slot → List ℕ
item_text slots.null = codes "null"
item_text (slots.number (number ∷ [])) = signed_decimal number
item_text other = []

-- `null`, or items in brackets separated by commas; other slots are no rows
abbrev pub row_text : Slot → List ℕ
row_text slots.null = codes "null"
row_text (slots.list items) = 91 ∷ join_with_byte 44 (map item_text (unseal items)) ++ 93 ∷ []
row_text other = []

-- each row and a line feed
abbrev pub rows_text : List Slot → List ℕ
rows_text rows = flat_map (λ row. row_text row ++ 10 ∷ []) rows

-- the bytes are the text of the rows, which may lack its last line feed
abbrev pub IsRowsText : List ℕ → List Slot → Type 0
IsRowsText bytes rows = (rows_text rows ≡ bytes) ⊎ (rows_text rows ≡ bytes ++ 10 ∷ [])

-- the first k - 1 lines are rows with fewer than 2^31 items in total; line k is no row, or exceeds that number
abbrev pub IsFirstInvalidLine : List (List ℕ) → ℕ → Type 0
IsFirstInvalidLine lines k = (rows : List Slot) × (line : List ℕ) × (after : List (List ℕ)) × AreRows rows × (lines ≡ map row_text rows ++ line ∷ after) × (length rows + 1 ≡ k)
    × ((row : Slot) → IsRow row → row_text row ≡ line → 2 ^ 31 ≤ item_count rows + list_row_len row)
