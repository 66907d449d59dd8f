-- Rows of arrays.
use Rattle.std.specs.Prelude.{ℕ, List, map}
use Rattle.std.specs.List.{flat_map}
use Rattle.nest_memory.specs.TypeTree.{TypeTree}
use Rattle.nest_memory.specs.Sublist.{sublist}
use Rattle.nest_model.specs.Layout.{Layout, layout_type}
use Rattle.nest_model.specs.Meaning.{slots_of}
use Rattle.nest_model.specs.Slot.{Slot}
use Rattle.nest_array.specs.Seen.{layout_of}
use Rattle.nest_array.specs.declared.any.AnyArray.{AnyArray}
use Rattle.nest_array.specs.WindowParts.{WindowParts, window_slots}

-- a row: a slot, and the data type of its array
abbrev pub RowSlot : Type 0
RowSlot = TypeTree × Slot

abbrev pub rows_of : Layout → List RowSlot
rows_of a = map (λ s. (layout_type a, s)) (slots_of a)

-- the rows of arrays, one array after another
abbrev pub rows_of_arrays : List AnyArray → List RowSlot
rows_of_arrays arrays = flat_map rows_of (map layout_of arrays)

abbrev pub rows_in : WindowParts → List RowSlot
rows_in w = map (λ s. (layout_type w.array, s)) (window_slots w)

-- the row at each index, in the order of the indices
abbrev pub rows_at_indices : {A : Type 0} → List A → List ℕ → List A
rows_at_indices rows places = flat_map (λ p. sublist rows p 1) places
