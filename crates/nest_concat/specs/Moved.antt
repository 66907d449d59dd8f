-- The offsets of concatenated dense unions.
use Rattle.std.specs.Prelude.{◌≡◌, ℕ, ◌+◌, ◌-◌, ◌<◌, ◌≤◌, ◌++◌, ℤ, pos, List, [], ◌∷◌, get_or, map, Option, Some, None, unwrap_or}
use Rattle.std.specs.List.{range_with_len}
use Rattle.nest_memory.specs.Sublist.{sublist}
use Rattle.nest_model.specs.Accessors.{children_of, start_of, types_of, union_offsets_of}
use Rattle.nest_model.specs.Checks.{most_picks}
use Rattle.nest_model.specs.Layout.{count_layouts}
use Rattle.nest_model.specs.Meaning.{union_index}
use Rattle.nest_array.specs.WindowParts.{WindowParts}
use Rattle.nest_concat.specs.Parts.{field_at}
use Rattle.nest_concat.specs.Windows.{count_slots, field_window}

-- Union Layout: the type ids of a window
abbrev pub type_ids_in : WindowParts → List ℤ
type_ids_in w = sublist (types_of w.array) w.offset w.count

-- the field that slot i picks, and the index there
abbrev pub picked_field : WindowParts → ℕ → ℕ
picked_field w i = unwrap_or (field_at w.array i) 0

abbrev pub picked_place : WindowParts → ℕ → ℕ
picked_place w i = union_index (union_offsets_of w.array) (start_of w.array) i

-- Union Layout, dense: the offset of slot i after the parts of its field in earlier windows
abbrev pub moved_offset : List WindowParts → WindowParts → ℕ → ℤ
moved_offset before w i =
    let f = picked_field w i in
    pos (count_slots (map (field_window f) before) + (picked_place w i - (field_window f w).offset))

-- the offsets of windows after earlier windows
abbrev pub offsets_behind : List WindowParts → List WindowParts → List ℤ
offsets_behind before [] = []
offsets_behind before (w ∷ ws) = map (moved_offset before w) (range_with_len w.offset w.count) ++ offsets_behind (before ++ w ∷ []) ws

abbrev pub moved_offsets : List WindowParts → List ℤ
moved_offsets ws = offsets_behind [] ws

-- a sparse union has no offsets
abbrev pub joined_offsets : Option (List ℤ) → List WindowParts → Option (List ℤ)
joined_offsets None ws = None
joined_offsets (Some os) ws = Some (moved_offsets ws)

-- counts of slots that offsets can hold
abbrev pub AreFew : List ℕ → Type 0
AreFew counts = (f : ℕ) → get_or counts f 0 ≤ most_picks

-- the ends of the window's parts of n fields, and the number of slots of each field up to those ends
abbrev pub AreAdvanced : ℕ → WindowParts → List ℕ → List ℕ → List ℕ → Type 0
AreAdvanced n w old ends counts =
    (f : ℕ) → f < n → (get_or ends f 0 ≡ (field_window f w).offset + (field_window f w).count) × (get_or counts f 0 ≡ get_or old f 0 + (field_window f w).count)

-- one field has too many slots
abbrev pub PassesOne : ℕ → WindowParts → List ℕ → Type 0
PassesOne n w counts = (f : ℕ) × (f < n) × (most_picks < get_or counts f 0 + (field_window f w).count)

-- the window's parts have these ends, and each is within the count of its field
abbrev pub ArePlaced : WindowParts → List ℕ → List ℕ → Type 0
ArePlaced w ends counts =
    (f : ℕ) → f < count_layouts (children_of w.array)
    → (get_or ends f 0 ≡ (field_window f w).offset + (field_window f w).count) × ((field_window f w).count ≤ get_or counts f 0) × (get_or counts f 0 ≤ most_picks)

-- the offset of slot i from these ends and counts
abbrev pub offset_by : List ℕ → List ℕ → WindowParts → ℕ → ℤ
offset_by ends counts w i = let f = picked_field w i in pos (get_or counts f 0 - (get_or ends f 0 - picked_place w i))
