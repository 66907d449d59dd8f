-- Equality of arrays: their data types and their lists of slots are equal. The definition is this library's own.
use Rattle.std.specs.Prelude.{◌≡◌, Bool, ◌&&◌}
use Rattle.nest_memory.specs.TypeEq.{same_type}
use Rattle.nest_model.specs.SlotCode.{same_slots}
use Rattle.nest_model.specs.Layout.{Layout, layout_type}
use Rattle.nest_model.specs.Meaning.{slots_of}

abbrev pub IsSameArray : Layout → Layout → Type 0
IsSameArray a b = (layout_type a ≡ layout_type b) × (slots_of a ≡ slots_of b)

-- Whether two arrays are equal.
abbrev pub same_array : Layout → Layout → Bool
same_array a b = same_type (layout_type a) (layout_type b) && same_slots (slots_of a) (slots_of b)
