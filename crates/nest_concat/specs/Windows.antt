-- The parts of windows over arrays: values, bits, rows, and the windows over their items.
use Rattle.std.specs.Prelude.{ℕ, ◌+◌, ◌-◌, ◌*◌, ℤ, Bool, true, false, ◌||◌, is_some, List, [], ◌∷◌, map, replicate, Some, None, if◌then◌else◌}
use Rattle.std.specs.List.{flat_map, range_with_len, sum_by}
use Rattle.nest_memory.specs.Sublist.{sublist}
use Rattle.nest_model.specs.Accessors.{validity_of, bits_of, natives_of, bytes_of, offsets_of, child_of, children_of, child_at}
use Rattle.nest_model.specs.Part.{Validity, begin, extent}
use Rattle.nest_array.specs.WindowParts.{WindowParts, window_parts}
use Rattle.nest_concat.specs.Parts.{part_of}

abbrev pub count_of : WindowParts → ℕ
count_of w = w.count

-- the number of their slots
abbrev pub count_slots : List WindowParts → ℕ
count_slots ws = sum_by count_of ws

-- Fixed-size Primitive Layout: the bits and the native values of a window; fixed-size binary: the bytes
abbrev pub booleans_in : WindowParts → List Bool
booleans_in w = sublist (bits_of w.array) w.offset w.count

abbrev pub natives_in : WindowParts → List (List ℤ)
natives_in w = sublist (natives_of w.array) w.offset w.count

abbrev pub blocks_in : ℕ → WindowParts → List ℕ
blocks_in size w = sublist (bytes_of w.array) (w.offset * size) (w.count * size)

-- Validity bitmaps: the bits of a window, set where its array has no bitmap
abbrev pub window_bits : Validity → ℕ → ℕ → List Bool
window_bits None o n = replicate n true
window_bits (Some bits) o n = sublist bits o n

abbrev pub bits_in : WindowParts → List Bool
bits_in w = window_bits (validity_of w.array) w.offset w.count

-- some array has a bitmap
abbrev pub have_bits : List WindowParts → Bool
have_bits [] = false
have_bits (w ∷ ws) = is_some (validity_of w.array) || have_bits ws

-- the bits of windows, one window after another; no bitmap where no array has one
abbrev pub concatenated_validity : List WindowParts → Validity
concatenated_validity ws = if have_bits ws then Some (flat_map bits_in ws) else None

-- Variable-size layouts: the number of items of each of n rows, and of each row of a window
abbrev pub extents : List ℕ → ℕ → ℕ → List ℕ
extents os o n = map (extent os) (range_with_len o n)

abbrev pub extents_in : WindowParts → List ℕ
extents_in w = extents (offsets_of w.array) w.offset w.count

-- the index of the first item of a window, and the number of its items
abbrev pub first_item : WindowParts → ℕ
first_item w = begin (offsets_of w.array) w.offset

abbrev pub window_item_count : WindowParts → ℕ
window_item_count w = begin (offsets_of w.array) (w.offset + w.count) - first_item w

-- the bytes of a window, and the window over its items
abbrev pub bytes_in : WindowParts → List ℕ
bytes_in w = sublist (bytes_of w.array) (first_item w) (window_item_count w)

abbrev pub items_in : WindowParts → WindowParts
items_in w = window_parts (child_of w.array) (first_item w) (window_item_count w)

-- Fixed-Size List Layout: the window over the items of rows of n items each
abbrev pub blocks_of : ℕ → WindowParts → WindowParts
blocks_of n w = window_parts (child_of w.array) (w.offset * n) (w.count * n)

-- Struct Layout and Union Layout: the window over the part of child f that the slots are in
abbrev pub field_window : ℕ → WindowParts → WindowParts
field_window f w = window_parts (child_at (children_of w.array) f) (part_of f w.array w.offset w.count).0 (part_of f w.array w.offset w.count).1
