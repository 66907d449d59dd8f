-- Windows over dictionaries: the values of their arrays, and keys moved past other values.
use Rattle.std.specs.Prelude.{◌≡◌, ◌⊎◌, ℕ, ◌+◌, ◌<◌, ◌≤◌, ℤ, pos, Bool, true, List, [], ◌∷◌, ◌++◌, map, if◌then◌else◌}
use Rattle.std.specs.List.{All, flat_map, range_with_len}
use Rattle.nest_memory.specs.TypeTree.{TypeTree, key_type}
use Rattle.nest_model.specs.Accessors.{validity_of, child_of, keys_of, key_at, key_type_of, raw_keys}
use Rattle.nest_model.specs.BuilderTree.{key_count}
use Rattle.nest_model.specs.Layout.{Layout}
use Rattle.nest_model.specs.Meaning.{len}
use Rattle.nest_model.specs.Part.{valid_at, to_index}
use Rattle.nest_model.specs.SameArray.{IsSameArray}
use Rattle.nest_array.specs.Keys.{keyed_by}
use Rattle.nest_array.specs.WindowParts.{WindowParts, window_parts}
use Rattle.nest_concat.specs.Windows.{count_slots, concatenated_validity}

-- Dictionary-encoded Layout: the number of values of the array of a window, and the window over all of them
abbrev pub count_values : WindowParts → ℕ
count_values w = len (child_of w.array)

abbrev pub values_in : WindowParts → WindowParts
values_in w = window_parts (child_of w.array) 0 (count_values w)

-- the values of each array equal c
abbrev pub HaveValues : Layout → List WindowParts → Type 0
HaveValues c ws = All (λ w. IsSameArray (child_of w.array) c) ws

-- the number of keys of a dictionary's key type
abbrev pub most_keys : TypeTree → ℕ
most_keys t = key_count (keyed_by (key_type t))

-- some valid key of the window is n or more after s other values
abbrev pub KeyPasses : ℕ → ℕ → WindowParts → Type 0
KeyPasses n s w = (j : ℕ) × ((j < w.count) × ((valid_at (validity_of w.array) (w.offset + j) ≡ true) × (n ≤ s + to_index (key_at (keys_of w.array) (w.offset + j)))))

-- some window has such a key, after s values and those of earlier arrays
abbrev pub KeysPass : ℕ → ℕ → List WindowParts → Type 0
KeysPass n s [] = ⊥
KeysPass n s (w ∷ ws) = KeyPasses n s w ⊎ KeysPass n (s + count_values w) ws

-- the key of slot i, or of one of m slots, is valid and n or more after s > 0 other values
abbrev pub IsKeyPast : ℕ → ℕ → Layout → ℕ → Type 0
IsKeyPast n s ks i = (0 < s) × ((valid_at (validity_of ks) i ≡ true) × (n ≤ s + to_index (key_at ks i)))

abbrev pub SomePast : ℕ → ℕ → Layout → ℕ → ℕ → Type 0
SomePast n s ks o m = (j : ℕ) × ((j < m) × IsKeyPast n s ks (o + j))

-- the key of slot i, or of each of m slots, is null or less than n after s other values
abbrev pub KeyFits : ℕ → ℕ → Layout → ℕ → Type 0
KeyFits n s ks i = valid_at (validity_of ks) i ≡ true → s + to_index (key_at ks i) < n

abbrev pub KeysFit : ℕ → ℕ → Layout → ℕ → ℕ → Type 0
KeysFit n s ks o m = (j : ℕ) → j < m → KeyFits n s ks (o + j)

-- the raw key of slot i after s other values, 0 for a null
abbrev pub moved_key : ℕ → Layout → ℕ → ℤ
moved_key s ks i = if valid_at (validity_of ks) i then pos (s + to_index (key_at ks i)) else pos 0

-- the raw keys of n slots, and of a window
abbrev pub moved_run : ℕ → Layout → ℕ → ℕ → List ℤ
moved_run s ks o n = map (moved_key s ks) (range_with_len o n)

abbrev pub keys_in : ℕ → WindowParts → List ℤ
keys_in s w = moved_run s (keys_of w.array) w.offset w.count

-- the keys of windows, each moved past the values of earlier arrays
abbrev pub moved_keys : ℕ → List WindowParts → List ℤ
moved_keys s [] = []
moved_keys s (w ∷ ws) = keys_in s w ++ moved_keys (s + count_values w) ws

-- the keys of windows, moved or unchanged
abbrev pub joined_keys : Bool → List WindowParts → List ℤ
joined_keys moved ws = if moved then moved_keys 0 ws else flat_map (keys_in 0) ws

-- new are these keys, of the key type of ks
pub record AreJoinedKeys (moved : Bool) (ks : Layout) (ws : List WindowParts) (new : Layout) : Type 0 where
  pub same_width : key_type_of new ≡ key_type_of ks
  pub count : len new ≡ count_slots ws
  pub validity : validity_of new ≡ concatenated_validity ws
  pub raw : raw_keys new ≡ joined_keys moved ws
