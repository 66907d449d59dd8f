-- The statements of the longer laws of JSON text, by name.
use Rattle.std.specs.Prelude.{◌≡◌}
use Rattle.nest_array.specs.WindowParts.{WindowParts, window_slots}
use Rattle.nest_model.specs.Array.{IsArray}
use Rattle.nest_model.specs.Layout.{layout_type}
use Rattle.nest_model.specs.Slot.{seal}
use Rattle.json_write.specs.JsonText.{json_of_window}
use Rattle.json_write.specs.TypedSlots.{HasDistinctUnionNames, FitIn128Bits, LackNan}

-- windows over valid arrays of one data type have equal slots if their text is equal
abbrev pub TextDeterminesSlots : WindowParts → WindowParts → Type 0
TextDeterminesSlots v w =
    IsArray v.array → IsArray w.array → layout_type v.array ≡ layout_type w.array
    → HasDistinctUnionNames (layout_type v.array) → FitIn128Bits (seal (window_slots v)) → FitIn128Bits (seal (window_slots w))
    → LackNan (layout_type v.array) (seal (window_slots v)) → LackNan (layout_type w.array) (seal (window_slots w))
    → json_of_window v ≡ json_of_window w → window_slots v ≡ window_slots w
