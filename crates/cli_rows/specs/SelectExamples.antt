-- Selected rows, by computation.
use Rattle.std.specs.Prelude.{◌≡◌, ℕ, true, false, List, [], ◌∷◌, Some, codes, pos, refl}
use Rattle.nest_memory.specs.TypeTree as types
use Rattle.nest_memory.specs.TypeTree.{TypeTree, field, more_fields, no_fields}
use Rattle.nest_model.specs.Slot as slots
use Rattle.nest_model.specs.Slot.{Slot, more_slots, no_slots}
use Rattle.cli_args.specs.Requests.{slice}
use Rattle.cli_rows.specs.Selection.{selected_rows}
use Rattle.cli_rows.specs.Rows.{RowSlot}

-- an integer that is not nullable, a boolean, and another boolean of the same name
abbrev pub record_type : TypeTree
record_type = types.struct (more_fields (field (codes "id") types.int64 false []) (more_fields (field (codes "ok") types.boolean true []) (more_fields (field (codes "ok") types.boolean true []) no_fields)))

abbrev pub row : ℕ → Slot → RowSlot
row n ok = (record_type, slots.record_of (more_slots (slots.number (pos n ∷ [])) (more_slots ok (more_slots (slots.boolean true) no_slots))))

abbrev pub first : RowSlot
first = row 5 (slots.boolean true)

abbrev pub second : RowSlot
second = row 6 slots.null

abbrev pub third : RowSlot
third = row 7 (slots.boolean false)

abbrev pub null_record : RowSlot
null_record = (record_type, slots.null)

abbrev pub three : List RowSlot
three = first ∷ second ∷ third ∷ []

-- 18446744073709551615 is the largest index
pub past_the_end : selected_rows (slice 1 18446744073709551615) three ≡ Some (second ∷ third ∷ [])
past_the_end = refl
